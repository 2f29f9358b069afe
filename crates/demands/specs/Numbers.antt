-- "Numbers returned" (01), the table: a line a number, in numeric order, each with what it is "given exactly when". A
-- call is answered by the first of its numbers whose test holds, and by 0 where none does. For `the_numbers`.
use Rattle.std.specs.Prelude.{ℕ, Bool, false, not, cond, ◌&&◌, List, [], ◌∷◌, eqb, leb, ltb, length}
use Rattle.std.specs.Prelude.{Result, Ok, Err}
use Rattle.numbers.specs.declared.Refusal.{Refusal}
use Rattle.numbers.specs.Numbers.{answered}
use Rattle.messages.specs.declared.received.Message.{Message}
use Rattle.charge_messages.specs.declared.ChargeMessage.{ChargeMessage}
use Rattle.messages.specs.declared.received.Message.TheVariants as message
use Rattle.messages.specs.Identifier.{parts_of}
use Rattle.messages.specs.Received.{least_length, nine, recognized_of, some_has}
use Rattle.readings.specs.Readings.{readings_in_range}
use Rattle.cells.specs.Tables.{tables_fit, cells_in_range}
use Rattle.settings.specs.Range.{in_range}
use Rattle.settings.specs.Read.{layout_of, settings_of}
use Rattle.settings.specs.Record.{record_of}
use Rattle.charge_messages.specs.Content.{content_of, allowed_content}
use Rattle.session_by_message.specs.Message.{outcome_number, outcome_of}
use Rattle.queries.specs.Waiting.{most_waiting, waiting}
use Rattle.queries.specs.Asking.{some_asks}
use Rattle.refusals.specs.Frame.{not_can, flags_set, not_for_us, bad_source}
use Rattle.refusals.specs.Tick.{tick_room}
use Rattle.controller.specs.declared.Controller.{Controller}
use Rattle.controller.specs.Frame.{may_charge}
use Rattle.demands.specs.Machine.{Call, Read, Receive, Tick, Write, Box, NoController, Using}

-- a line of the table: the number, and whether it is given
pub data Line : Type 0 where
  Given : ℕ → Bool → Line

-- "Checks run in numeric order within a call"
unfoldable pub first_given : List Line → ℕ
first_given [] = 0
first_given (Given n when ∷ lines) = cond when n (first_given lines)

-- the message is shorter than its least length
unfoldable pub is_short : List ℕ → Result Message Refusal → Bool
is_short s (Ok m) = ltb (length s) (least_length m)
is_short s (Err refusal) = false

-- the message, with its content, is not taken in this state
unfoldable pub not_taken : Controller → Result ChargeMessage Refusal → Bool
not_taken c (Ok m) =
    eqb (outcome_number (outcome_of c.settings c.session.state c.session.count m)) 11
not_taken c (Err refusal) = false

-- a charge message, and a query, from a source
unfoldable pub message_lines : Controller → ℕ → List ℕ → Result Message Refusal → List Line
message_lines c source s (Ok (message.Charge k)) =
    -- Idle: source not in the list; else: not the session's station
    Given 9 (not (may_charge c source))
    -- content not allowed
    ∷ Given 10 (not (allowed_content k s))
    -- not taken in this state
    ∷ Given 11 (not_taken c (content_of k s))
    ∷ []
message_lines c source s (Ok (message.Query q)) =
    -- same source and kind already waiting
    Given 12 (some_asks source q (waiting c.queries))
    -- four waiting
    ∷ Given 13 (leb most_waiting (length (waiting c.queries)))
    ∷ []
message_lines c source s (Err refusal) = []

unfoldable pub frame_lines : Controller → ℕ → List ℕ → List Line
frame_lines c id s =
    -- identifier 2^29 or more, or over 8 bytes
    Given 3 (not_can id s)
    -- reserved or data page set
    ∷ Given 4 (flags_set (parts_of id))
    -- PF 240 up, or target not our address
    ∷ Given 5 (not_for_us c.settings.own (parts_of id))
    -- source is ours, 254 or 255
    ∷ Given 6 (bad_source c.settings.own (parts_of id))
    -- PF not one of the nine
    ∷ Given 7 (not (some_has (parts_of id).pf nine))
    -- shorter than its least length
    ∷ Given 8 (is_short s (recognized_of (parts_of id).pf))
    ∷ message_lines c (parts_of id).source s (recognized_of (parts_of id).pf)

unfoldable pub lines_of : Box → Call → List Line
lines_of b (Read s) =
    -- layout is not the above
    Given 1 (not (layout_of s))
    -- a value is outside its range
    ∷ Given 2 (not (in_range (settings_of s)))
    ∷ []
lines_of NoController (Receive id s) = []
lines_of (Using c) (Receive id s) = frame_lines c id s
lines_of NoController (Tick r v t old) = []
lines_of (Using c) (Tick r v t old) =
    -- tables differ in length, or hold none or over 255
    Given 14 (not (tables_fit v t))
    -- a reading or cell outside its range
    ∷ Given 15 (not (readings_in_range r && cells_in_range v t))
    -- buffer under 117 bytes (nine frames)
    ∷ Given 16 (ltb (length old) tick_room)
    ∷ []
lines_of NoController (Write old) = []
lines_of (Using c) (Write old) =
    -- "writing settings first applies 2"
    Given 2 (not (in_range c.settings))
    -- buffer shorter than the record
    ∷ Given 17 (ltb (length old) (length (record_of c.settings)))
    ∷ []
