-- One channel's registers, and what a write makes of them.
use Rattle.std.specs.Prelude.{◌≡◌, ℕ, ◌+◌, ◌*◌, ◌/◌, ◌%◌, Bool, true, false, cond, not, ◌&&◌, ◌||◌, List, [], ◌∷◌, Some, None, Option, ◌==◌, nat_lt, slice_index, slice_set}
use Rattle.bus.specs.declared.place.Place.{Place}
use Rattle.bus.specs.declared.place.Addressing.{Addressing}
use Rattle.bus.specs.declared.place.Addressing.TheVariants.{Bytes, Words}
use Rattle.registers.specs.declared.channel.Channel.{Channel}
use Rattle.registers.specs.declared.channel.Span.{Span}
use Rattle.registers.specs.declared.list.List.{List as Chain}
use Rattle.registers.specs.declared.list.Signal.{Signal}
use Rattle.registers.specs.declared.list.Signal.TheVariants.{Eop, Irq13}
use Rattle.registers.specs.declared.mode.Mode.{Mode}
use Rattle.registers.specs.Modes.{flag, is_cascade, rest_mode}

-- a 16-bit register with one of its bytes replaced: the high one, or the low one
abbrev pub put_byte : Bool → ℕ → ℕ → ℕ
put_byte high v x = cond high (x % 256 + v * 256) (v + x / 256 * 256)

-- one byte of a 16-bit register
abbrev pub byte_of : Bool → ℕ → ℕ
byte_of high x = cond high (x / 256) (x % 256)

-- the four bytes of a 32-bit register, lowest first
abbrev pub bytes_of : ℕ → List ℕ
bytes_of x = (x % 256) ∷ (x / 256 % 256) ∷ (x / 65536 % 256) ∷ (x / 16777216 % 256) ∷ []

-- the 32-bit register that has these bytes, lowest first
abbrev pub from_bytes : List ℕ → ℕ
from_bytes bs = slice_index bs 0 + slice_index bs 1 * 256 + slice_index bs 2 * 65536 + slice_index bs 3 * 16777216

-- a register at rest
abbrev pub rest_place : Place
rest_place = record { address = 0; low = 0; high = 0 }

-- a span whose registers are all 0
abbrev pub rest_span : Span
rest_span = record { place = rest_place; count = 0 }

-- no list: nothing active, loaded, fetched or stopped, and EOP selected
abbrev pub rest_list : ℕ → Chain
rest_list pointer = record {
  pointer = pointer;
  next = 0;
  active = false;
  loaded = false;
  reserve = None;
  ended = false;
  stopped = false;
  entries = 0;
  signal = Eop;
  irq13 = false;
}

-- a channel whose registers are all 0
abbrev pub blank : Channel
blank = record {
  base = rest_span;
  current = rest_span;
  extended = false;
  mode = rest_mode;
  addressing = Bytes;
  timing = 0;
  line = false;
  mask = false;
  request = false;
  terminal = false;
  list = rest_list 0;
}

-- a new channel: masked, all else 0 but the addressing
abbrev pub fresh : Addressing → Channel
fresh words = record blank { addressing = words; mask = true }

-- one byte of the address replaced, and the high page zeroed
abbrev pub addressed : Bool → ℕ → Span → Span
addressed high v x = record x { place = record (x.place) { address = put_byte high v x.place.address; high = 0 } }

-- the low page replaced, and the high page zeroed
abbrev pub low_paged : ℕ → Span → Span
low_paged v x = record x { place = record (x.place) { low = v; high = 0 } }

-- the high page replaced
abbrev pub high_paged : ℕ → Span → Span
high_paged v x = record x { place = record (x.place) { high = v } }

-- one byte of the count replaced
abbrev pub counted : Bool → ℕ → Span → Span
counted high v x = record x { count = put_byte high v x.count }

-- base and current of the new channel are what f makes of the old ones; all else stays
pub record Respans (f : Span → Span → Type 0) (old new : Channel) : Type 0 where
  pub a : Span
  pub b : Span
  pub first : f old.base a
  pub second : f old.current b
  pub whole : new ≡ record old { base = a; current = b }

-- an address byte goes to base and current; addressing is no longer extended, and both high pages are 0
abbrev pub with_address : Bool → ℕ → Channel → Channel
with_address high v ch = record ch { base = addressed high v ch.base; current = addressed high v ch.current; extended = false }

-- a count byte goes to base and current
abbrev pub with_count : Bool → ℕ → Channel → Channel
with_count high v ch = record ch { base = counted high v ch.base; current = counted high v ch.current }

-- the low page goes to base and current; addressing is no longer extended, and both high pages are 0
abbrev pub with_low : ℕ → Channel → Channel
with_low v ch = record ch { base = low_paged v ch.base; current = low_paged v ch.current; extended = false }

-- the high page goes to base and current, and addressing is extended
abbrev pub with_high : ℕ → Channel → Channel
with_high v ch = record ch { base = high_paged v ch.base; current = high_paged v ch.current; extended = true }

-- another mode
abbrev pub with_mode : Mode → Channel → Channel
with_mode m ch = record ch { mode = m }

-- the extended mode's byte: bits 5:4 timing, 3:2 addressing
abbrev pub with_extended_mode : ℕ → Channel → Channel
with_extended_mode v ch = record ch { addressing = cond (v / 4 % 4 == 0) Bytes Words; timing = v / 16 % 4 }

-- another level of the line
abbrev pub with_line : Bool → Channel → Channel
with_line b ch = record ch { line = b }

-- another mask
abbrev pub with_mask : Bool → Channel → Channel
with_mask b ch = record ch { mask = b }

-- another request bit
abbrev pub with_request : Bool → Channel → Channel
with_request b ch = record ch { request = b }

-- another terminal count bit
abbrev pub with_terminal : Bool → Channel → Channel
with_terminal b ch = record ch { terminal = b }

-- another list
abbrev pub with_list : Chain → Channel → Channel
with_list l ch = record ch { list = l }

-- master clear: masked, no request, no terminal count, no list; line, registers, modes and table pointer stay
abbrev pub cleared : Channel → Channel
cleared ch = record ch { mask = true; request = false; terminal = false; list = rest_list ch.list.pointer }

-- byte k of the table pointer
unfoldable pub table_byte : ℕ → Chain → ℕ
table_byte k l = slice_index (bytes_of l.pointer) (k % 4)

-- byte k of the table pointer replaced
unfoldable pub with_table_byte : ℕ → ℕ → Channel → Channel
with_table_byte k v ch = let l = ch.list in with_list (record l { pointer = from_bytes (slice_set (bytes_of l.pointer) (k % 4) v) }) ch

-- what the end of a list will signal: with bit 6 set, bit 7 selects EOP or IRQ13; else it stays
abbrev pub selected : ℕ → Signal → Signal
selected v s = cond (flag 64 v) (cond (flag 128 v) Eop Irq13) s

-- an accepted list command selects the signal and clears the IRQ13 bit
abbrev pub commanded : ℕ → Chain → Chain
commanded v l = record l { signal = selected v l.signal; irq13 = false }

-- Start: active, nothing loaded, no EOL, no Stop, no entry counted; the next place is the table pointer
abbrev pub started : Chain → Chain
started l = record l { next = l.pointer; active = true; loaded = false; reserve = None; ended = false; stopped = false; entries = 0 }

-- Stop while something is loaded: no entry is fetched after it
abbrev pub stopped_list : Chain → Chain
stopped_list l = record l { stopped = true }

-- a list that is over
abbrev pub inactive : Chain → Chain
inactive l = record l { active = false }

-- Stop: an active list with nothing loaded ends with the mask set; with something loaded it is closed; an inactive one stays
abbrev pub halted : Channel → Channel
halted ch = cond ch.list.active
    (cond ch.list.loaded (with_list (stopped_list ch.list) ch) (with_mask true (with_list (inactive ch.list) ch)))
    ch

-- a list command: bits 1:0 are 0 nothing, 1 Start, 2 Stop
abbrev pub with_list_command : ℕ → Channel → Channel
with_list_command v ch = let done = with_list (commanded v ch.list) ch in
    cond (v % 4 == 1) (with_list (started done.list) done) (cond (v % 4 == 2) (halted done) done)

-- whether an address register counts shifted words
abbrev pub is_words : Addressing → Bool
is_words Bytes = false
is_words Words = true

-- a list takes neither autoinitialise, nor cascade, nor shifted words
abbrev pub unfit : Channel → Bool
unfit ch = ch.mode.autoinitialise || (is_cascade ch.mode.service || is_words ch.addressing)

-- a table stands at a multiple of 4, at FFFF8000h at the highest
abbrev pub misplaced : ℕ → Bool
misplaced pointer = not (pointer % 4 == 0) || nat_lt 0xFFFF8000 pointer

-- the refusal of Start: 4 on an active list, 5 where unfit, 6 where misplaced
abbrev pub start_refusal : Channel → ℕ
start_refusal ch = cond ch.list.active 4 (cond (unfit ch) 5 (cond (misplaced ch.list.pointer) 6 0))

-- the refusal of a list command: 3 where there is no such command, else that of Start
abbrev pub list_refusal : ℕ → Channel → ℕ
list_refusal v ch = cond (v % 4 == 3) 3 (cond (v % 4 == 1) (start_refusal ch) 0)

-- whether a list command begins a job: Start, or a Stop that ends the list
abbrev pub list_begins : ℕ → Channel → Bool
list_begins v ch = v % 4 == 1 || (v % 4 == 2 && (ch.list.active && not ch.list.loaded))

-- 1 or 0
abbrev pub bit : Bool → ℕ
bit b = cond b 1 0

-- whether the end is signalled by IRQ13
abbrev pub is_irq13 : Signal → Bool
is_irq13 Eop = false
is_irq13 Irq13 = true

-- whether there is a value
abbrev pub is_loaded : {X : Type 0} → Option X → Bool
is_loaded None = false
is_loaded (Some x) = true

-- the list status: 7 EOL fetched, 5 IRQ13 selected, 3 reserve loaded, 2 current loaded, 0 active
abbrev pub list_status : Chain → ℕ
list_status l = bit l.ended * 128 + bit (is_irq13 l.signal) * 32 + bit (is_loaded l.reserve) * 8 + bit l.loaded * 4 + bit l.active
