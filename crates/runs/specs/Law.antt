-- THE LAW: what holds of every run, over any memory and any port bank, for every list of calls.
use Rattle.std.specs.Prelude.{◌≡◌, ℕ, suc, ◌+◌, ◌<◌, ◌≤◌, Bool, true, false, cond, ◌&&◌, List, [], ◌∷◌, ◌++◌, length, take, drop, is_some, Some, None, Option, ◌==◌, ◌≢◌, slice_index}
use Rattle.bus.specs.Plan.{plan}
use Rattle.registers.specs.declared.channel.Channel.{Channel}
use Rattle.registers.specs.File.{channel_of}
use Rattle.controller.specs.declared.fetching.Fetched.{Fetched as Entry}
use Rattle.controller.specs.Outside.{Outside}
use Rattle.controller.specs.Steps.{State}
use Rattle.controller.specs.Passing.{course_of}
use Rattle.controller.specs.Asking.{asks}
use Rattle.runs.specs.Calls.{Turn}
use Rattle.runs.specs.Words.{Move, move_of, fetch_of, service_begun, stored_bytes, goes_in, goes_out, begins_job, stops, entries_at, ends_by_eol, entry_addresses, table_of}

-- CARRYING --------------------------------------------------------------------------------------------------------

-- the units that a run carried from a channel's device to memory, in order
abbrev pub carried_in : ℕ → List Turn → List ℕ
carried_in c [] = []
carried_in c (t ∷ h) = goes_in c t ++ carried_in c h

-- the units that it carried to the device
abbrev pub carried_out : ℕ → List Turn → List ℕ
carried_out c [] = []
carried_out c (t ∷ h) = goes_out c t ++ carried_out c h

-- the latest of some bytes stored at x, or else the old one
abbrev pub last_stored : ℕ → ℕ → List (ℕ × ℕ) → ℕ
last_stored x old [] = old
last_stored x old (w ∷ ws) = last_stored x (cond (x == w.0) w.1 old) ws

-- the latest byte that a channel or a grant wrote at x, or else the first
abbrev pub latest : ℕ → ℕ → List Turn → ℕ
latest x first [] = first
latest x first (t ∷ h) = latest x (last_stored x first (stored_bytes t)) h

-- what a run carried: every unit and byte once, in order
pub record Carried (first : Outside) (h : List Turn) (after : Outside) : Type 0 where
  -- what waited at first is what was carried to memory, in order, then what waits now
  pub waited : (c : ℕ) → first.waiting c ≡ carried_in c h ++ after.waiting c
  -- what is kept grew by what was carried to the device, in order
  pub kept : (c : ℕ) → after.kept c ≡ first.kept c ++ carried_out c h
  -- and the free places fell by as many
  pub places : (c : ℕ) → after.free c + length (carried_out c h) ≡ first.free c
  -- each byte is the latest written there, or else its first
  pub bytes : (x : ℕ) → after.bytes x ≡ latest x (first.bytes x) h
  -- kinds are as at first
  pub kinds : after.kinds ≡ first.kinds

-- PLANS -----------------------------------------------------------------------------------------------------------

-- no turn of a row begins a job of channel c
abbrev pub NoneBegins : ℕ → List Turn → Type 0
NoneBegins c [] = Unit {0}
NoneBegins c (t ∷ h) = (begins_job c t ≡ false) × NoneBegins c h

-- how many transfers of channel c a row has
abbrev pub transfers : ℕ → List Turn → ℕ
transfers c [] = 0
transfers c (t ∷ h) = cond (is_some (move_of c t)) 1 0 + transfers c h

-- n more than a number, if there is one
abbrev pub more : ℕ → Option ℕ → Option ℕ
more n None = None
more n (Some m) = Some (n + m)

-- how many entries of channel c's list a row fetches up to the first Stop, if there is one
abbrev pub cut_after : ℕ → List Turn → Option ℕ
cut_after c [] = None
cut_after c (t ∷ h) = cond (stops c t) (Some 0) (more (cond (is_some (fetch_of c t)) 1 0) (cut_after c h))

-- Stop cuts a list's plan after the entries fetched
abbrev pub cut : Option ℕ → List Entry → List Entry
cut None es = es
cut (Some n) es = take n es

-- a plan is closed if EOL ends the table, or from an accepted Stop on
abbrev pub closed_by : Option ℕ → List Entry → Bool
closed_by None es = ends_by_eol es
closed_by (Some n) es = true

-- the addresses of a row of entries
abbrev pub addresses_of : Channel → List Entry → List ℕ
addresses_of ch [] = []
addresses_of ch (e ∷ es) = entry_addresses ch e ++ addresses_of ch es

-- x is none of some places
abbrev pub Misses : ℕ → List ℕ → Type 0
Misses x [] = Unit {0}
Misses x (y ∷ ys) = (y ≢ x) × Misses x ys

-- no write of a row touches the table
abbrev pub Spared : List ℕ → List (ℕ × ℕ) → Type 0
Spared table [] = Unit {0}
Spared table (w ∷ ws) = Misses w.0 table × Spared table ws

-- no turn of a row writes to the table
abbrev pub Untouched : List ℕ → List Turn → Type 0
Untouched table [] = Unit {0}
Untouched table (t ∷ h) = Spared table (stored_bytes t) × Untouched table h

-- the k-th transfer of a job passes the k-th address of its plan, and signals exactly if it completes a closed plan
pub record Along (addresses : List ℕ) (closed : Bool) (k : ℕ) (m : Move) : Type 0 where
  pub within : k < length addresses
  pub address : m.address ≡ slice_index addresses k
  pub signals : is_some m.signal ≡ (closed && k + 1 == length addresses)

-- a job of channel c that begins with the registers of s, then a row that begins no other, then a transfer
abbrev pub PlainJob : ℕ → State → List Turn → Move → Type 0
PlainJob c s row m = let ch = channel_of s.registers c in
    ch.list.active ≡ false → Along (plan (course_of ch) ch.current.place (suc ch.current.count)) true (transfers c row) m

-- a list's plan is its table at Start; it holds until a write to memory touches the table
abbrev pub ListJob : ℕ → State → List Turn → Move → Type 0
ListJob c s row m = let ch = channel_of s.registers c in let es = entries_at s.world ch.list.pointer in
    ch.list.active ≡ true → Untouched (table_of ch.list.pointer es) row
    → Along (addresses_of ch (cut (cut_after c row) es)) (closed_by (cut_after c row) es) (transfers c row) m

-- every job: it begins at making, or with the turn before the row
abbrev pub Job : ℕ → State → List Turn → Move → Type 0
Job c s row m = PlainJob c s row m × ListJob c s row m

-- each transfer of a job is the next of its plan, from making on and from each beginning
pub record Planned (first : State) (h : List Turn) : Type 0 where
  pub made : (c : ℕ) (row rest : List Turn) (t : Turn) (m : Move) → c < 8 → h ≡ row ++ (t ∷ rest) → NoneBegins c row → move_of c t ≡ Some m → Job c first row m
  pub begun : (c : ℕ) (past row rest : List Turn) (b t : Turn) (m : Move) → c < 8 → h ≡ past ++ (b ∷ (row ++ (t ∷ rest))) → begins_job c b ≡ true
      → NoneBegins c row → move_of c t ≡ Some m → Job c b.after row m

-- WAITING ---------------------------------------------------------------------------------------------------------

-- before the first and after each call of a row the channel asks, and the groups that it needs rotate
abbrev pub Asking : ℕ → State → Type 0
Asking c s = (asks s.registers c ≡ true) × (s.registers.second.rotating ≡ true) × (c < 4 → s.registers.first.rotating ≡ true)

-- the channel asks all along a row
abbrev pub KeepsAsking : ℕ → List Turn → Type 0
KeepsAsking c [] = Unit {0}
KeepsAsking c (t ∷ h) = Asking c t.before × Asking c t.after × KeepsAsking c h

-- a service that begins is one more to wait for, unless it is the channel's own
abbrev pub waited : ℕ → Option ℕ → ℕ → ℕ
waited c None n = n
waited c (Some d) n = cond (c == d) 0 (1 + n)

-- the services of others that begin before the channel's own
abbrev pub others_first : ℕ → List Turn → ℕ
others_first c [] = 0
others_first c (t ∷ h) = waited c (service_begun t) (others_first c h)

-- no channel that asks waits for more than so many others
pub record Waiting (h : List Turn) : Type 0 where
  -- channels 5 to 7 wait for at most three others while the second group rotates
  pub second : (c i n : ℕ) → 4 < c → c < 8 → KeepsAsking c (take n (drop i h)) → others_first c (take n (drop i h)) ≤ 3
  -- channels 0 to 3 wait for at most fifteen while both rotate
  pub first : (c i n : ℕ) → c < 4 → KeepsAsking c (take n (drop i h)) → others_first c (take n (drop i h)) ≤ 15

-- a run carries what it transfers, keeps to its plans, and lets nobody wait too long
pub record Law (first : State) (h : List Turn) (last : State) : Type 0 where
  pub carried : Carried first.world h last.world
  pub planned : Planned first h
  pub waiting : Waiting h
