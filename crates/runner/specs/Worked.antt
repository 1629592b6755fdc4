-- Worked scripts: what the definitions say of a few.
use Rattle.std.specs.Prelude.{◌≡◌, [], ◌∷◌}
use Rattle.runner.specs.Hosts.{host_run}

-- the answers to a few scripts, of a host without memory
pub record WorkedScripts : Type 0 where
  -- a new controller shows its first group's four masks set
  pub masked : (host_run (0x02 ∷ 0x0F ∷ 0x00 ∷ []) [] 3).answers ≡ 0x82 ∷ 0x00 ∷ 0x0F ∷ []
  -- there is no port FFh
  pub no_port : (host_run (0x01 ∷ 0xFF ∷ 0x00 ∷ 0x00 ∷ []) [] 2).answers ≡ 0x81 ∷ 0x01 ∷ []
