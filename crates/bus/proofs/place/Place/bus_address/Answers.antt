-- `Place::bus_address` joins the registers by shifts and masks, which is the sum of the definition.
use Rattle.std.proofs.Common.{rules}
use Rattle.bus.proofs.Shifts.{or_pages, or_bytes, or_words}
use Rattle.bus.proofs.Trips.{place_of_address}
use Rattle.bus.proofs.place.Place.bus_address.Goals as goal

pub returns-in-Bytes : goal.returns-in-Bytes
returns-in-Bytes c = search (rules, or_pages, or_bytes, place_of_address)

pub returns-in-Words : goal.returns-in-Words
returns-in-Words c = search (rules, or_pages, or_words, place_of_address)
