-- What ticks come to: one by what is held, several one after the other. Assumes nothing.
use Prim.Native.Nat.{ℕ, zero, suc, ◌-◌, ◌<◌}
use native.Mathlib.Nat.{not-suc-le-zero}
use mathlib.Core.Path.{◌≡◌, refl, sym, ◌∙◌, ap}
use mathlib.Core.Bool.{false, false≢true}
use mathlib.Core.List.{List, []}
use native.Mathlib.Omega.{arith}
use lib.IntN.{ℤ}
use lib.ListN.{take-append-drop}
use Rattle.std.proofs.Common.{Option, Some, None, Result, Ok, Err}
use Rattle.std.specs.Option.{is_some}
use Rattle.numbers.specs.declared.Refusal.{Refusal}
use Rattle.numbers.specs.Numbers.{answered}
use Rattle.controller.specs.declared.Controller.{Controller}
use Rattle.controller.specs.Tick.{Ticked, ticked}
use Rattle.replay_print.proofs.Laws.{laid_append}
use Rattle.replay_print.specs.Out.{Output, laid_of, waits, Prints}
use Rattle.replay_script.specs.declared.lent.Lent.{Lent}
use Rattle.replay_calls.specs.Calls.{tick_accepted, tick_sent, tick_answer, buffer_ticked, TickLent}
use Rattle.replay_calls.specs.Counts.{count_after}
use Rattle.replay_host.proofs.Outcomes.{comes_first}
use Rattle.replay_host.specs.Host.{Keeps, keeps_of, Comes, only, entered}
use Rattle.replay_host.specs.Ticks.{lending, bytes_of, tick_text, ticked_done, tick_for, tick_done, tick_buffer}
use Rattle.replay_host.specs.Ticks.{ticks_done, ticks_buffer}
use Rattle.replay_host.specs.declared.held.Host.{Host}
use Rattle.replay_host.specs.declared.ticks.Loan.{Loan}

ticked_is : (k : Ticked) (number bytes : ℕ) (c : Controller) → k.number ≡ number → k.bytes ≡ bytes → k.controller ≡ c
    → k ≡ record { number = number; bytes = bytes; controller = c }
ticked_is k number bytes c a b e = rw (← a, ← b, ← e)

pub ticked_same : (x : Keeps) (k j : Ticked) (b d : List ℕ) → k ≡ j → b ≡ d → ticked_done x k b ≡ ticked_done x j d
ticked_same x k j b d e f = rw (e, f)

module _ (l : Lent) (v : List ℕ) (t : List ℤ) where
  -- a tick that is lent the first so many of each: its answer, and the whole buffer after it
  pub tick_answer_lem : {c : Controller} {old new : List ℕ} {k : Ticked} → TickLent c l v t old new k
      → (k ≡ tick_answer c l v t old) × (new ≡ buffer_ticked c l v t old)
  unfolding tick_answer buffer_ticked tick_accepted tick_sent
  tick_answer_lem {c} {old} {new} {k} a = (
    ticked_is k _ _ _ a.ticked.number a.ticked.bytes a.ticked.next,
    sym (take-append-drop l.room new) ∙ rw (a.ticked.later, a.rest),
  )

  -- one tick, by what is held
  pub tick_none : (old : List ℕ) (x : Keeps) → x.held ≡ None
      → (only [] x ≡ tick_done l v t old x) × (old ≡ tick_buffer l v t old x.held)
  unfolding tick_done tick_for tick_buffer
  tick_none old x e = (rw e, rw e)

  pub tick_of_lem : (old : List ℕ) (x : Keeps) (c : Controller) → x.held ≡ Some c
      → (ticked_done x (tick_answer c l v t old) (buffer_ticked c l v t old) ≡ tick_done l v t old x)
      × (buffer_ticked c l v t old ≡ tick_buffer l v t old x.held)
  unfolding tick_done tick_for tick_buffer
  tick_of_lem old x c e = (rw e, rw e)

  -- without a controller so many ticks come to nothing
  pub no_ticks : (n : ℕ) (old : List ℕ) (x : Keeps) → x.held ≡ None
      → (only [] x ≡ ticks_done l v t n old x) × (old ≡ ticks_buffer l v t n old x)
  unfolding ticks_done ticks_buffer
  no_ticks zero old x e = (refl, refl)
  no_ticks (suc n) old x e =
      let a = tick_none old x e in
      let b = no_ticks n old x e in
      (rw (← a.0, ← a.1) (rw (← b.0)), rw (← a.0, ← a.1) b.1)

  -- the ticks that are left come to what all of them come to
  pub record Going (n : ℕ) (old : List ℕ) (x : Keeps) (from : Output)
      (left : ℕ) (buf : List ℕ) (y : Keeps) (at : Output) : Type 0 where
    pub kept : (ticks_done l v t left buf y).kept ≡ (ticks_done l v t n old x).kept
    pub printed : laid_of (ticks_done l v t left buf y).text at ≡ laid_of (ticks_done l v t n old x).text from
    pub buffer : ticks_buffer l v t left buf y ≡ ticks_buffer l v t n old x

  module _ {n : ℕ} {old : List ℕ} {x : Keeps} {from : Output} where
    -- at first all are left
    pub going_first : Going n old x from n old x from
    going_first = record { kept = refl; printed = refl; buffer = refl }

    going_suc : (m : ℕ) {buf later : List ℕ} {y : Keeps} {at : Output} {z : Keeps} {o : Output}
        → Going n old x from (suc m) buf y at → z ≡ (tick_done l v t buf y).kept
        → o ≡ laid_of (tick_done l v t buf y).text at → later ≡ tick_buffer l v t buf y.held
        → Going n old x from m later z o
    unfolding ticks_done ticks_buffer
    going_suc m {buf} {later} {y} {at} {z} {o} g ez eo el =
        record {
          kept = rw (ez, el) g.kept;
          printed =
              rw (ez, el, eo)
              (sym (laid_append (tick_done l v t buf y).text
              (ticks_done l v t m (tick_buffer l v t buf y.held) (tick_done l v t buf y).kept).text
              at)
              ∙ g.printed);
          buffer = rw (ez, el) g.buffer;
        }

    -- one more is done
    pub going_next : {W : Type 0} (left : ℕ) {buf later : List ℕ} {h r : Host W} → 0 < left
        → Going n old x from left buf (keeps_of h) (waits h.out)
        → Comes h r (tick_done l v t buf (keeps_of h)) → later ≡ tick_buffer l v t buf h.held
        → Going n old x from (left - 1) later (keeps_of r) (waits r.out)
    going_next zero b g a e = absurd (not-suc-le-zero b)
    going_next (suc m) b g a e =
        let s : suc m - 1 ≡ m = omega arith in
        rw s (going_suc m g a.kept a.prints.later e)

module _ {W : Type 0} where
  -- a tick that was answered
  pub ticked_comes : (a : Result ℕ Refusal) (c : Controller) (buf : List ℕ) {old mid new : Host W}
      → Prints old.out mid.out (tick_text (answered a) (bytes_of a) old.accepted buf)
      → Comes mid new (entered old.held c (count_after (answered a) old.accepted))
      → Comes old new (ticked_done (keeps_of old) (ticked a c) buf)
  unfolding ticked_done
  ticked_comes (Ok n) c buf p e = comes_first p e
  ticked_comes (Err refusal) c buf p e = comes_first p e

  -- a tick of a loop, with what it is lent: one more is done, and only the buffer is another
  pub going_on : (l y : Loan) {z : Loan} {n : ℕ} {old : List ℕ} {x : Keeps} {from : Output} (left : ℕ) {h r : Host W}
      → 0 < left → y ≡ lending l y.buffer
      → Going l.lent l.volts l.temps n old x from left y.buffer (keeps_of h) (waits h.out)
      → Comes h r (tick_done y.lent y.volts y.temps y.buffer (keeps_of h))
      → z ≡ lending y (tick_buffer y.lent y.volts y.temps y.buffer h.held)
      → (z ≡ lending l z.buffer)
      × Going l.lent l.volts l.temps n old x from (left - 1) z.buffer (keeps_of r) (waits r.out)
  going_on l y left b e g a f =
      let el = ap (λ (k : Loan). k.lent) e in
      let ev = ap (λ (k : Loan). k.volts) e in
      let et = ap (λ (k : Loan). k.temps) e in
      let c = rw (el, ev, et) at a in
      let d = rw (el, ev, et) at f in
      (rw d refl, going_next l.lent l.volts l.temps left b g c (ap (λ (k : Loan). k.buffer) d))

  -- none is left
  pub going_last : {l : Lent} {v : List ℕ} {t : List ℤ} {n : ℕ} {old buf : List ℕ} {h r : Host W}
      → Going l v t n old (keeps_of h) (waits h.out) 0 buf (keeps_of r) (waits r.out)
      → Comes h r (ticks_done l v t n old (keeps_of h)) × (buf ≡ ticks_buffer l v t n old (keeps_of h))
  unfolding ticks_done ticks_buffer laid_of
  going_last g = (record { kept = g.kept; prints = record { later = g.printed } }, g.buffer)

-- no controller is held where an Option is none
pub held_none : (h : Option Controller) → is_some h ≡ false → h ≡ None
held_none None e = refl
held_none (Some c) e = absurd (false≢true (sym e))
