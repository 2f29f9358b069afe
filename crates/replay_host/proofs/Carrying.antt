-- What lines come to: one by what it asks for, several one after the other. Assumes nothing.
use Prim.Native.Nat.{ℕ, zero, suc, ◌+◌, ◌≤◌, ◌<◌, min}
use mathlib.Core.Path.{◌≡◌, refl, sym, ◌∙◌, ap}
use mathlib.Core.Bool.{true, false, ◌&&◌}
use mathlib.Core.List.{List, []}
use native.Mathlib.Omega.{arith}
use borrow.Author.Tests.{lt-ltb}
use lib.Dec.{ltb}
use lib.IntN.{ℤ}
use Rattle.replay_print.proofs.Laws.{prints_then, prints_eq, laid_append}
use Rattle.replay_print.specs.Out.{Output, laid_of, waits}
use Rattle.replay_script.specs.Clocks.{due_of}
use Rattle.replay_script.specs.Lent.{lent_after}
use Rattle.replay_script.specs.Lines.{asked_in, bytes_after, volts_after, temps_after}
use Rattle.replay_script.specs.declared.Asked.TheVariants as asks
use Rattle.replay_script.specs.declared.Asked.{Asked}
use Rattle.replay_script.specs.declared.clock.Clock.{Clock}
use Rattle.replay_script.specs.declared.lent.Lent.{Lent}
use Rattle.replay_text.specs.Lines.{line_end}
use Rattle.replay_host.specs.Host.{Keeps, Outcome, keeps_of, Comes, absent_for, absent_done, unreadable_done}
use Rattle.replay_host.specs.Lines.{World, Carried, world_of, having, Makes, and_then, logged_clock}
use Rattle.replay_host.specs.Lines.{calls_done, calls_buffer, clock_after, carried_out, line_of, line_read, line_done}
use Rattle.replay_host.specs.Lines.{lines_up_to, lines_done, CarriesOut}
use Rattle.replay_calls.specs.Counts.{next_number}
use Rattle.replay_host.specs.Ticks.{lending}
use Rattle.replay_host.specs.declared.held.Host.{Host}
use Rattle.replay_host.specs.declared.lines.Run.{Run}
use Rattle.replay_host.specs.declared.ticks.Loan.{Loan}
use Rattle.std.proofs.Common.{Option, Some, None}
use Rattle.std.proofs.lemmas.Bool.Decides.{nat_tests}
use Rattle.controller.specs.declared.Controller.{Controller}

module _ {W : Type 0} where
  -- one call, then another
  pub comes_then : {old mid new : Host W} {a : Outcome} (f : Keeps → Outcome)
      → Comes old mid a → Comes mid new (f (keeps_of mid)) → Comes old new (and_then a f)
  comes_then f p q =
      record {
        kept = q.kept ∙ ap (λ (x : Keeps). (f x).kept) p.kept;
        prints = prints_then p.prints (prints_eq q.prints (ap (λ (x : Keeps). (f x).text) p.kept));
      }

  -- a run with another host, that is lent another buffer
  pub lends : (r : Run W) (h : Host W) {l : Loan} {b : List ℕ} → l ≡ lending r.loan b
      → ◌≡◌ {A = Run W} (record { host = h; loan = l; clock = r.clock; number = r.number; bytes = r.bytes })
      (having r h b)
  lends r h e = rw e

  -- a line's calls, by what it asks for
  pub makes_by : {old new : Run W} {asked a : Asked} → asked ≡ a → Makes old new a → Makes old new asked
  makes_by e m = rw e m

-- that there is no controller changes nothing
kept_for : (h : Option Controller) (x : Keeps) → (absent_for h x).kept ≡ x
unfolding absent_for
kept_for None x = refl
kept_for (Some c) x = refl

pub absent_keeps : (x : Keeps) → (absent_done x).kept ≡ x
unfolding absent_done
absent_keeps x = kept_for x.held x

-- a log's clock, by what is due
pub clock_by : (asked : Asked) (c : Clock) (now id n : ℕ) (d : Option (ℕ × Clock))
    → asked ≡ asks.Logged now id n → due_of c now ≡ d
    → logged_clock d c ≡ clock_after asked c
unfolding clock_after
clock_by asked c now id n d e f = rw (e, f)

-- a line carried out, from its parts
pub carries : {W : Type 0} (asked : Asked) (old mid : Run W) (h : Host W) (b : List ℕ) {l : Lent} {c : Clock}
    → mid ≡ having old h b → Comes old.host h (calls_done asked (world_of old)) → b ≡ calls_buffer asked (world_of old)
    → l ≡ lent_after mid.loan.lent asked → c ≡ clock_after asked mid.clock
    → CarriesOut {W = W} old
    (record {
      host = mid.host;
      loan = record { lent = l; volts = mid.loan.volts; temps = mid.loan.temps; buffer = mid.loan.buffer };
      clock = c;
      number = mid.number;
      bytes = mid.bytes;
    })
    (carried_out asked (world_of old))
unfolding carried_out
carries {W} asked old mid h b {l} {c} e p eb el ec = rw e (parts (rw e at el) (rw e at ec))
  where
    parts : l ≡ lent_after old.loan.lent asked → c ≡ clock_after asked old.clock
        → CarriesOut {W = W} old
        (record {
          host = h;
          loan = record { lent = l; volts = old.loan.volts; temps = old.loan.temps; buffer = b };
          clock = c;
          number = old.number;
          bytes = old.bytes;
        })
        (carried_out asked (world_of old))
    parts fl fc = record { world = rw (p.kept, eb, fl, fc); prints = p.prints }

-- a line that cannot be read
pub unreadable_by : {W : Type 0} {asked : Option Asked} (r : Run W) {h : Host W} → asked ≡ None
    → Comes r.host h (unreadable_done r.number (keeps_of r.host))
    → CarriesOut {W = W} r
    (record { host = h; loan = r.loan; clock = r.clock; number = r.number; bytes = r.bytes })
    (line_of asked (world_of r))
unfolding line_of unreadable_done
unreadable_by r e p = rw e (record { world = rw p.kept; prints = p.prints })

-- a line that was read
pub line_by : (text : List ℕ) (at end number : ℕ) (w : World) (asked : Option Asked)
    (bytes volts : List ℕ) (temps : List ℤ)
    → end ≡ line_end text at → number ≡ next_number w.number
    → (asked ≡ asked_in text at end)
    × ((bytes ≡ bytes_after text at end w.bytes)
    × ((volts ≡ volts_after text at end w.volts) × (temps ≡ temps_after text at end w.temps)))
    → line_of asked
    (record {
      keeps = w.keeps;
      lent = w.lent;
      clock = w.clock;
      number = number;
      bytes = bytes;
      volts = volts;
      temps = temps;
      buffer = w.buffer;
    })
    ≡ line_done text at w
unfolding line_done line_read
line_by text at end number w asked bytes volts temps e n r =
    rw (r.0, r.1.0, r.1.1.0, r.1.1.1, e, n)

pub carries_eq : {W : Type 0} {old new : Run W} {x y : Carried} → CarriesOut old new x → x ≡ y → CarriesOut old new y
carries_eq a e = rw (← e) a

-- the place is before the last, and within the text
pub both : (at last : ℕ) → at < min last 65536 → (at < 65536) × (at < last)
both at last h = (omega arith, omega arith)

pub either : (at last : ℕ) → min last 65536 ≤ at → (ltb at 65536 && ltb at last) ≡ false
either at last h = grind (arith, nat_tests)

module _ (text : List ℕ) (last : ℕ) where
  -- the lines that are left come to what all of them come to
  pub record Left (x : World) (from : Output) (at : ℕ) (w : World) (out : Output) : Type 0 where
    pub most : ℕ
    pub enough : 65536 ≤ most + at
    pub world : (lines_up_to most text last at w).world ≡ (lines_done text last x).world
    pub printed : laid_of (lines_up_to most text last at w).text out ≡ laid_of (lines_done text last x).text from

  -- at first all are left
  pub left_first : (x : World) (from : Output) → Left x from 0 x from
  unfolding lines_done
  left_first x from = record { most = 65536; enough = omega arith; world = refl; printed = refl }

  module _ {x : World} {from : Output} where
    next_of : (most at next : ℕ) (w : World) (out : Output) {y : World} {o : Output}
        → 65536 ≤ most + at → at < 65536 → at < last
        → (lines_up_to most text last at w).world ≡ (lines_done text last x).world
        → laid_of (lines_up_to most text last at w).text out ≡ laid_of (lines_done text last x).text from
        → at < next → next ≡ line_end text at + 1 → y ≡ (line_done text at w).world
        → o ≡ laid_of (line_done text at w).text out → Left x from next y o
    unfolding lines_up_to
    next_of zero at next w out e i j ew ep g en ey eo = let b : ⊥ = omega arith in absurd b
    next_of (suc most) at next w out e i j ew ep g en ey eo =
        let t : (ltb at 65536 && ltb at last) ≡ true = rw (lt-ltb at 65536 i, lt-ltb at last j) in
        record {
          most = most;
          enough = omega arith;
          world = rw (en, ey) (rw t at ew);
          printed =
              rw (en, ey, eo)
              (sym (laid_append (line_done text at w).text
              (lines_up_to most text last (line_end text at + 1) (line_done text at w).world).text
              out)
              ∙ rw t at ep);
        }

    -- one more is done
    pub left_next : {W : Type 0} (at end : ℕ) {w : World} {mid new : Run W} → at < 65536 → at < last
        → Left x from at w (waits mid.host.out) → at ≤ end → end ≡ line_end text at
        → CarriesOut mid new (line_done text at w) → Left x from (end + 1) (world_of new) (waits new.host.out)
    left_next at end {w} {mid} i j g h e a =
        next_of g.most at (end + 1) w (waits mid.host.out) g.enough i j g.world g.printed (omega arith)
        (ap (λ (n : ℕ). n + 1) e)
        a.world
        a.prints.later

  none_left : (most at : ℕ) (w : World) → (ltb at 65536 && ltb at last) ≡ false
      → lines_up_to most text last at w ≡ record { world = w; text = [] }
  unfolding lines_up_to
  none_left zero at w e = refl
  none_left (suc most) at w e = rw e

  -- none is left
  pub left_last : {W : Type 0} {old new : Run W} (at : ℕ) → (ltb at 65536 && ltb at last) ≡ false
      → Left (world_of old) (waits old.host.out) at (world_of new) (waits new.host.out)
      → CarriesOut old new (lines_done text last (world_of old))
  unfolding laid_of
  left_last {W} {old} {new} at e g =
      let n = none_left g.most at (world_of new) e in
      record { world = rw n at g.world; prints = record { later = rw n at g.printed } }
