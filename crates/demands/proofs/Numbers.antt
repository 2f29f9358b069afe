-- "Numbers returned": each call, of any controller and any input, is answered by the first number of the paper's table
-- whose test holds. It follows from the entry points' promises. Assumes nothing.
use Prim.Native.Nat.{ℕ}
use Rattle.numbers.specs.Numbers.{number_of}
use Rattle.numbers.specs.declared.Refusal.TheVariants.{NotTheStation, TooShort, NotCan, FlagSet, NotForUs, BadSource}
use Rattle.std.proofs.Common.{Result, Ok, Err}
use Rattle.numbers.specs.declared.Refusal.{Refusal}
use Rattle.numbers.specs.Numbers.{answered}
use Rattle.charge_messages.specs.declared.ChargeMessage.{ChargeMessage}
use native.Mathlib.Omega.{arith}
use mathlib.Core.Path.{◌≡◌, refl, sym, ap, ◌∙◌}
use mathlib.Core.Bool.{Bool, true, false, not, cond, ◌&&◌, ◌||◌}
use mathlib.Core.List.{List, [], ◌∷◌}
use lib.Dec.{eqb, ltb}
use lib.ListN.{length}
use Rattle.messages.specs.declared.received.Charge.{Charge}
use Rattle.messages.specs.declared.received.Kind.{Kind}
use Rattle.messages.specs.declared.received.Message.{Message}
use Rattle.messages.specs.declared.received.Message.TheVariants as message
use Rattle.messages.specs.Identifier.{parts_of}
use Rattle.messages.specs.Table.{pf_of}
use Rattle.messages.specs.Received.{row_of, least_length, nine, first_with, recognized_of, some_has}
use Rattle.settings.specs.Range.{in_range}
use Rattle.settings.specs.Read.{layout_of, settings_of, record_number}
use Rattle.settings.specs.Record.{record_of}
use Rattle.settings.specs.Write.{write_number, written_of}
use Rattle.settings.specs.Write.{Written}
use Rattle.readings.specs.Readings.{readings_in_range}
use Rattle.cells.specs.Tables.{tables_fit, cells_in_range}
use Rattle.charge_messages.specs.Content.{content_of, allowed_content, refusal_of}
use Rattle.charge_messages.proofs.Numbers.{content_number_lem}
use Rattle.session_by_message.specs.declared.Outcome.{Outcome}
use Rattle.session_by_message.specs.declared.Outcome.TheVariants as outcome
use Rattle.session_by_message.specs.Message.{outcome_number, outcome_of}
use Rattle.session.specs.Message.{applied_of, message_of}
use Rattle.queries.specs.Asking.{ask_number, queued_of}
use Rattle.refusals.specs.Frame.{not_can, flags_set, not_for_us, bad_source, long_enough, message_in}
use Rattle.refusals.specs.Tick.{tick_room, tick_number}
use Rattle.controller.specs.declared.Controller.{Controller}
use Rattle.controller.specs.Frame.{Answer}
use Rattle.controller.specs.Frame.{refused, may_charge, frame_to, session_moved, content_taken, charge_to, queries_moved, query_to, message_to}
use Rattle.demands.specs.Machine.{Box, NoController, Using, number_seen}
use Rattle.demands.specs.Calls.{CallMade, DidRead, DidReceive, DidTick, DidWrite, call_in, KeepsPromise, in_hand}
use Rattle.demands.specs.Refusals.{number_given}
use Rattle.demands.specs.Numbers.{first_given, is_short, not_taken, message_lines, frame_lines, lines_of}
use Rattle.demands.proofs.View.{frame_view}
use Rattle.demands.proofs.Comes.{content_is, ContentOf}

-- ---- the nine: known exactly where one of them has the PF, else refused by 7
unfoldable Known : Bool → Result Message Refusal → Type 0
Known b (Ok m) = b ≡ true
Known b (Err n) = (b ≡ false) × (number_of n ≡ 7)

known_with : (pf : ℕ) (ms : List Message) → Known (some_has pf ms) (first_with pf ms)
unfolding Known
known_with pf [] = (refl, refl)
known_with pf (m ∷ ms) = either (eqb pf (pf_of (row_of m))) (known_with pf ms)
  where
    either : (b : Bool) → Known (some_has pf ms) (first_with pf ms)
        → Known (b || some_has pf ms) (cond b (Ok m) (first_with pf ms))
    either true h = refl
    either false h = h

-- ---- a message
taken_number : (o : Outcome) → outcome_number o ≡ cond (eqb (outcome_number o) 11) 11 0
taken_number outcome.Refuse = refl
taken_number outcome.OutOfStep = refl
taken_number outcome.Open = refl
taken_number outcome.Heard = refl
taken_number (outcome.Enter st) = refl
taken_number (outcome.Keep st) = refl
taken_number outcome.End = refl

allowed_is : (a : Bool) → ◌≡◌ {A = ℕ} 0 (cond a 0 10) → a ≡ true
allowed_is true h = refl
allowed_is false h = absurd (omega (arith, h))

refused_is : (a : Bool) → ◌≡◌ {A = ℕ} 10 (cond a 0 10) → a ≡ false
refused_is true h = absurd (omega (arith, h))
refused_is false h = refl

module _ (c : Controller) (source : ℕ) (s : List ℕ) where
  abbrev number : Result Message Refusal → ℕ
  number p = (message_to c source s p).number

  content_told : (k : Charge) (m : Result ChargeMessage Refusal) → content_of k s ≡ m
      → (content_taken c source m).number ≡ cond (not (allowed_content k s)) 10 (cond (not_taken c m) 11 0)
  unfolding content_taken session_moved message_of applied_of not_taken refusal_of ContentOf
  content_told k (Ok m) e =
      let a : allowed_content k s ≡ true = allowed_is (allowed_content k s) (ap answered (sym e) ∙ content_number_lem k s) in
      rw a (taken_number (outcome_of c.settings c.session.state c.session.count m))
  content_told k (Err n) e =
      let t : number_of n ≡ 10 = content_is k s (Err n) e in
      let a : allowed_content k s ≡ false = refused_is (allowed_content k s) (sym t ∙ (ap answered (sym e) ∙ content_number_lem k s)) in
      rw a t

  charge_told : (k : Charge)
      → (charge_to c source k s).number ≡ first_given (message_lines c source s (Ok (message.Charge k)))
  unfolding charge_to message_lines first_given
  charge_told k = either (may_charge c source) (content_told k (content_of k s) refl)
    where
      n : ℕ
      n = cond (not (allowed_content k s)) 10 (cond (not_taken c (content_of k s)) 11 0)

      either : (b : Bool) → (content_taken c source (content_of k s)).number ≡ n
          → (cond b (content_taken c source (content_of k s)) (refused NotTheStation c)).number ≡ cond (not b) 9 n
      either true h = h
      either false h = refl

  query_told : (q : Kind)
      → (query_to c source q).number ≡ first_given (message_lines c source s (Ok (message.Query q)))
  unfolding query_to queries_moved queued_of ask_number message_lines first_given
  query_told q = refl

  -- 8, then the message's own
  long_told : (b : Bool) (p : Result Message Refusal) → Known b p
      → number (long_enough s p) ≡ cond (not b) 7 (cond (is_short s p) 8 (first_given (message_lines c source s p)))
  unfolding Known long_enough is_short message_to
  long_told b (Ok (message.Charge k)) h =
      rw h (either (ltb (length s) (least_length (message.Charge k))))
    where
      either : (t : Bool) → number (cond t (Err TooShort) (Ok (message.Charge k)))
          ≡ cond t 8 (first_given (message_lines c source s (Ok (message.Charge k))))
      either true = refl
      either false = charge_told k
  long_told b (Ok (message.Query q)) h =
      rw h (either (ltb (length s) (least_length (message.Query q))))
    where
      either : (t : Bool) → number (cond t (Err TooShort) (Ok (message.Query q)))
          ≡ cond t 8 (first_given (message_lines c source s (Ok (message.Query q))))
      either true = refl
      either false = query_told q
  long_told b (Err n) h = rw h.0 h.1

  -- one check more in front
  check : (t : Bool) (n : Refusal) (m : ℕ) (p : Result Message Refusal) → number p ≡ m
      → number (cond t (Err n) p) ≡ cond t (number_of n) m
  unfolding message_to
  check true n m p h = refl
  check false n m p h = h

frame_told : (c : Controller) (id : ℕ) (s : List ℕ) → (frame_to c id s).number ≡ first_given (frame_lines c id s)
unfolding message_in frame_lines first_given
frame_told c id s =
    let x = (parts_of id).source in
    let p = recognized_of (parts_of id).pf in
    ap (λ (a : Answer). a.number) (frame_view c id s)
    ∙ check c x s (not_can id s) NotCan _ _
    (check c x s (flags_set (parts_of id)) FlagSet _ _
    (check c x s (not_for_us c.settings.own (parts_of id)) NotForUs _ _
    (check c x s (bad_source c.settings.own (parts_of id)) BadSource _ _
    (long_told c x s (some_has (parts_of id).pf nine) p (known_with (parts_of id).pf nine)))))

-- ---- the other calls
two_checks : (a b : Bool) (n m : ℕ) → cond a (cond b 0 m) n ≡ cond (not a) n (cond (not b) m 0)
two_checks true true n m = refl
two_checks true false n m = refl
two_checks false b n m = refl

tick_told : (a b t : Bool)
    → ◌≡◌ {A = ℕ} (cond a (cond b (cond t 16 0) 15) 14) (cond (not a) 14 (cond (not b) 15 (cond t 16 0)))
tick_told true true t = refl
tick_told true false t = refl
tick_told false b t = refl

write_told : (a t : Bool) → ◌≡◌ {A = ℕ} (cond a (cond t 17 0) 2) (cond (not a) 2 (cond t 17 0))
write_told true t = refl
write_told false t = refl

pub the_numbers : (b : Box) (m : CallMade) → KeepsPromise b m → number_given m ≡ first_given (lines_of b (call_in m))
unfolding KeepsPromise call_in in_hand number_seen lines_of first_given record_number tick_number written_of write_number
the_numbers NoController (DidRead s a) h = h.0 ∙ two_checks (layout_of s) (in_range (settings_of s)) 1 2
the_numbers (Using c) (DidRead s a) h = h.0 ∙ two_checks (layout_of s) (in_range (settings_of s)) 1 2
the_numbers NoController (DidReceive id s a) h = absurd h
the_numbers (Using c) (DidReceive id s a) h = ap (λ (z : Answer). z.number) h ∙ frame_told c id s
the_numbers NoController (DidTick r v t old new k) h = absurd h
the_numbers (Using c) (DidTick r v t old new k) h =
    h.number ∙ tick_told (tables_fit v t) (readings_in_range r && cells_in_range v t) (ltb (length old) tick_room)
the_numbers NoController (DidWrite old new w) h = absurd h
the_numbers (Using c) (DidWrite old new w) h =
    ap (λ (z : Written). z.number) h.answer
    ∙ write_told (in_range c.settings) (ltb (length old) (length (record_of c.settings)))
