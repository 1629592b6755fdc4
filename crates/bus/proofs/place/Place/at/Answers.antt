-- The registers that `Place::at` reads off an address are those of the address.
use Rattle.std.proofs.Common.{rules}
use Rattle.bus.proofs.Shifts.{at_bytes, at_words}
use Rattle.bus.proofs.Trips.{address_back}
use Rattle.bus.proofs.place.Place.at.Goals as goal

pub returns-in-Bytes : goal.returns-in-Bytes
returns-in-Bytes c =
    record {
      value = search (rules, at_bytes);
      back = address_back c.args.addressing c.args.address c.args.old_low _ (search (rules, at_bytes)) (search rules);
    }

pub returns-in-Words : goal.returns-in-Words
returns-in-Words c =
    record {
      value = search (rules, at_words);
      back = address_back c.args.addressing c.args.address c.args.old_low _ (search (rules, at_words)) (search rules);
    }
