-- The checks of a received frame: 01, "Numbers returned", 3 to 8 and 9. "Checks run in numeric order within a call."
use Rattle.std.specs.Prelude.{ℕ, Bool, not, cond, ◌||◌, List, eqb, leb, ltb, length, Result, Ok, Err}
use Rattle.numbers.specs.declared.Refusal.{Refusal}
use Rattle.numbers.specs.declared.Refusal.TheVariants.{NotCan, FlagSet, NotForUs, BadSource, TooShort}
use Rattle.numbers.specs.Numbers.{number_of}
use Rattle.messages.specs.declared.identifier.Identifier.{Identifier}
use Rattle.messages.specs.declared.received.Message.{Message}
use Rattle.messages.specs.Identifier.{first_broadcast, parts_of}
use Rattle.messages.specs.Received.{least_length, recognized_of}
use Rattle.settings.specs.declared.Stations.{Stations}
use Rattle.settings.specs.Range.{station_list, lacks}
use Rattle.session_states.specs.declared.states.State.{State}
use Rattle.session_states.specs.States.{is_idle}

-- 3: identifier 2^29 or more, or over 8 bytes
unfoldable pub not_can : ℕ → List ℕ → Bool
not_can id s = leb 0x2000_0000 id || ltb 8 (length s)

-- 4: reserved or data page set
unfoldable pub flags_set : Identifier → Bool
flags_set p = eqb p.reserved 1 || eqb p.page 1

-- 5: PF 240 up, or target not our address
unfoldable pub not_for_us : ℕ → Identifier → Bool
not_for_us own p = leb first_broadcast p.pf || not (eqb p.ps own)

-- 6: source is ours, 254 or 255
unfoldable pub bad_source : ℕ → Identifier → Bool
bad_source own p = eqb p.source own || (eqb p.source 254 || eqb p.source 255)

-- 8: shorter than its least length; what 7 has refused stays refused
unfoldable pub long_enough : List ℕ → Result Message Refusal → Result Message Refusal
long_enough s (Ok m) = cond (ltb (length s) (least_length m)) (Err TooShort) (Ok m)
long_enough s (Err refusal) = Err refusal

-- 3 to 8, in numeric order (7, "PF not one of the nine", is `recognized_of`): the message in a frame, or the
-- first check that refuses it. Of the controller nothing is asked but its own address
unfoldable pub message_in : ℕ → ℕ → List ℕ → Result Message Refusal
message_in own id s =
    cond (not_can id s) (Err NotCan)
    (cond (flags_set (parts_of id)) (Err FlagSet)
    (cond (not_for_us own (parts_of id)) (Err NotForUs)
    (cond (bad_source own (parts_of id)) (Err BadSource) (long_enough s (recognized_of (parts_of id).pf)))))

-- the number by which 3 to 8 refuse a frame, the first of them that does; 0 where none does
abbrev pub known_number : List ℕ → Result Message Refusal → ℕ
known_number s (Ok m) = cond (ltb (length s) (least_length m)) 8 0
known_number s (Err refusal) = number_of refusal

unfoldable pub frame_number : ℕ → ℕ → List ℕ → ℕ
frame_number own id s =
    cond (not_can id s) 3
    (cond (flags_set (parts_of id)) 4
    (cond (not_for_us own (parts_of id)) 5
    (cond (bad_source own (parts_of id)) 6 (known_number s (recognized_of (parts_of id).pf)))))

-- 9: Idle: source not in the list; else: not the session's station
unfoldable pub listed : ℕ → Stations → Bool
listed source s = not (lacks source (station_list s))

abbrev pub may_speak : State → ℕ → Stations → ℕ → Bool
may_speak state station s source = cond (is_idle state) (listed source s) (eqb source station)
