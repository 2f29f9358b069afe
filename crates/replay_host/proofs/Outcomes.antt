-- How what calls come to is put together: a text alone, a text before all else, the same by another name; and what each
-- call comes to by what is held. Assumes nothing.
use Prim.Native.Nat.{ℕ}
use mathlib.Core.Path.{◌≡◌, refl, sym, ◌∙◌}
use mathlib.Core.Bool.{true, false≢true}
use mathlib.Core.List.{List, []}
use lib.ListN.{take, take-append-drop}
use Rattle.std.proofs.Common.{Option, Some, None, Ok}
use Rattle.std.specs.Option.{is_some}
use Rattle.controller.specs.Frame.{frame_to}
use Rattle.controller.specs.Start.{start_of}
use Rattle.controller.specs.declared.Controller.{Controller}
use Rattle.replay_print.proofs.Laws.{prints_none, prints_then}
use Rattle.replay_print.specs.Answers.{settings_line, no_controller_line}
use Rattle.replay_print.specs.Out.{Prints}
use Rattle.replay_print.specs.declared.out.Out.{Out}
use Rattle.replay_print.specs.declared.standings.Standing.{Standing}
use Rattle.settings.specs.Write.{Written, written_of}
use Rattle.settings.specs.declared.Settings.{Settings}
use Rattle.replay_calls.specs.Calls.{buffer_written, WriteLent}
use Rattle.replay_host.specs.Host.{Keeps, Outcome, keeps_of, Comes, only, first, entered, standing_held}
use Rattle.replay_host.specs.Host.{standing_done, start_done}
use Rattle.replay_host.specs.Host.{settings_done, answer_done, frame_for, frame_done, written_done, write_for}
use Rattle.replay_host.specs.Host.{write_done, write_buffer, absent_for, absent_done}
use Rattle.replay_host.specs.declared.held.Host.{Host}

module _ {W : Type 0} where
  -- nothing at all
  pub comes_none : (h : Host W) → Comes h h (only [] (keeps_of h))
  comes_none h = record { kept = refl; prints = prints_none h.out }

  -- a text before all else
  pub comes_first : {old mid new : Host W} {text : List ℕ} {x : Outcome}
      → Prints old.out mid.out text → Comes mid new x → Comes old new (first text x)
  comes_first p a = record { kept = a.kept; prints = prints_then p a.prints }

  -- a controller that a call gave, and its standing printed where the call has changed it
  pub enters : (h : Option Controller) {o : Out W} {c : Controller} {n : ℕ} {z : Host W} {b : Standing}
      → b ≡ standing_held h
      → Comes {W = W} (record { held = Some c; accepted = n; out = o }) z
      (standing_done b (record { held = Some c; accepted = n }))
      → Comes {W = W} (record { held = Some c; accepted = n; out = o }) z (entered h c n)
  unfolding entered standing_held
  enters h e a = record { kept = a.kept; prints = rw e at a.prints }

  -- the same by another name
  pub comes_eq : {old new : Host W} {x y : Outcome} → Comes old new x → x ≡ y → Comes old new y
  comes_eq a e = rw (← e) a

module _ (x : Keeps) where
  pub made : (bytes : List ℕ) (c : Controller) → start_of bytes ≡ Ok c
      → first (settings_line 0) (entered x.held c 0) ≡ settings_done bytes x
  unfolding settings_done start_done
  made bytes c e = rw e

  pub frame_none : (id : ℕ) (bytes : List ℕ) → x.held ≡ None → only no_controller_line x ≡ frame_done id bytes x
  unfolding frame_done frame_for
  frame_none id bytes e = rw e

  pub frame_of_lem : (id : ℕ) (bytes : List ℕ) (c : Controller) → x.held ≡ Some c
      → answer_done x (frame_to c id bytes) ≡ frame_done id bytes x
  unfolding frame_done frame_for
  frame_of_lem id bytes c e = rw e

  pub write_none : (n : ℕ) (old : List ℕ) → x.held ≡ None
      → (only no_controller_line x ≡ write_done n old x) × (old ≡ write_buffer n old x.held)
  unfolding write_done write_for write_buffer
  write_none n old e = (rw e, rw e)

  pub written_same : (w u : Written) (b d : List ℕ) → w ≡ u → b ≡ d → written_done x w b ≡ written_done x u d
  written_same w u b d e f = rw (e, f)

  pub write_of_lem : (n : ℕ) (old : List ℕ) (c : Controller) → x.held ≡ Some c
      → (written_done x (written_of c.settings (take n old)) (buffer_written c.settings n old) ≡ write_done n old x)
      × (buffer_written c.settings n old ≡ write_buffer n old x.held)
  unfolding write_done write_for write_buffer
  write_of_lem n old c e = (rw e, rw e)

-- where there is a controller nothing is said of none
present : (h : Option Controller) (x : Keeps) → is_some h ≡ true → only [] x ≡ absent_for h x
unfolding absent_for
present None x e = absurd (false≢true e)
present (Some c) x e = refl

pub absent_of : (x : Keeps) → is_some x.held ≡ true → only [] x ≡ absent_done x
unfolding absent_done
absent_of x e = present x.held x e

-- a write that is lent the first n bytes: its answer, and the whole buffer after it
pub write_answer : {x : Settings} {n : ℕ} {old new : List ℕ} {w : Written} → WriteLent x n old new w
    → (w ≡ written_of x (take n old)) × (new ≡ buffer_written x n old)
unfolding buffer_written
write_answer {x} {n} {old} {new} {w} a =
    (a.wrote.answer, sym (take-append-drop n new) ∙ rw (a.wrote.later, a.rest))
