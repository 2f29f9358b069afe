-- Demand 3, first half, the place of the end: "the session ends at the same place in both or in neither". Take two
-- lists of calls by which the same reaches an open session, say two corresponding beginnings of longer ones: it ends
-- within both or within neither; and where it does not, the session's record after them is the same. What cannot reach
-- it never ends it. Assumes nothing.
use Prim.Native.Nat.{ℕ}
use mathlib.Core.Path.{◌≡◌, refl, ap, sym, ◌∙◌}
use mathlib.Core.Bool.{Bool, true, false, cond, false≢true}
use mathlib.Core.List.{List, [], ◌∷◌}
use Rattle.session.specs.declared.Session.{Session}
use Rattle.controller.specs.declared.Controller.{Controller}
use Rattle.demands.specs.Machine.{Call}
use Rattle.demands.specs.After.{after, after_all, no_session, ends_within}
use Rattle.demands.specs.Apart.{reaches, reaching, Alike}
use Rattle.demands.proofs.Apart.{unreached, kept_open, alike_call, same_no_session, then, back}

-- a list that begins without a session
pub at_once : (c : Controller) (es : List Call) → no_session c ≡ true → ends_within c es ≡ true
unfolding ends_within
at_once c [] h = h
at_once c (e ∷ es) h = rw h

-- a list that begins with one
not_yet : (c : Controller) (e : Call) (es : List Call) → no_session c ≡ false
    → ends_within c (e ∷ es) ≡ ends_within (after c e) es
unfolding ends_within
not_yet c e es h = rw h

-- the same end, and until it the same session
record Together (c d : Controller) (es fs : List Call) : Type 0 where
  ends : ends_within c es ≡ ends_within d fs
  until : ends_within c es ≡ false → (after_all c es).session ≡ (after_all d fs).session

over_together : (c d : Controller) (es fs : List Call) → Alike c d → no_session c ≡ true → Together c d es fs
over_together c d es fs a h =
    let k : ends_within d fs ≡ true = at_once d fs (sym (same_no_session c d a) ∙ h) in
    record { ends = at_once c es h ∙ sym k; until = λ f. absurd (false≢true (sym f ∙ at_once c es h)) }

step_left : (c d : Controller) (e : Call) (es fs : List Call) → no_session c ≡ false → Together (after c e) d es fs
    → Together c d (e ∷ es) fs
unfolding after_all
step_left c d e es fs o t =
    record { ends = not_yet c e es o ∙ t.ends; until = λ f. t.until (sym (not_yet c e es o) ∙ f) }

step_right : (c d : Controller) (e : Call) (es fs : List Call) → no_session d ≡ false → Together c (after d e) es fs
    → Together c d es (e ∷ fs)
unfolding after_all
step_right c d e es fs o t = record { ends = t.ends ∙ sym (not_yet d e fs o); until = t.until }

abbrev Alone : ℕ → List Call → Type 0
Alone st es = (c d : Controller) → Alike c d → c.session.station ≡ st → no_session c ≡ false → Together c d es (reaching st es)

both : (c d : Controller) (es fs : List Call) → Alike c d → (no_session c ≡ false → Together c d es fs) → (b : Bool)
    → no_session c ≡ b → Together c d es fs
both c d es fs a h true e = over_together c d es fs a e
both c d es fs a h false e = h e

one_more : (st : ℕ) (e : Call) (es : List Call) → Alone st es → (c d : Controller) → Alike c d
    → c.session.station ≡ st → no_session c ≡ false
    → (t : Bool) → reaches st e ≡ t → Together c d (e ∷ es) (cond t (e ∷ reaching st es) (reaching st es))
one_more st e es ih c d a k o true h =
    step_left c d e es (e ∷ reaching st es) o
    (step_right (after c e) d e es (reaching st es) (sym (same_no_session c d a) ∙ o)
    (both (after c e) (after d e) es (reaching st es) (alike_call c d a e)
    (λ p. ih (after c e) (after d e) (alike_call c d a e) (kept_open c e o p ∙ k) p) (no_session (after c e)) refl))
one_more st e es ih c d a k o false h =
    let u : Alike (after c e) c = unreached c e o (ap (λ (z : ℕ). reaches z e) k ∙ h) in
    step_left c d e es (reaching st es) o
    (ih (after c e) d (then (after c e) c d u a) (ap (λ (z : Session). z.station) u.session ∙ k) (same_no_session (after c e) c u ∙ o))

alone : (st : ℕ) (es : List Call) → Alone st es
unfolding reaching ends_within after_all
alone st [] c d a k o = record { ends = same_no_session c d a; until = λ f. a.session }
alone st (e ∷ es) c d a k o = one_more st e es (alone st es) c d a k o (reaches st e) refl

-- over a list in which the session stays open, what cannot reach it may be left out
pub left_out : (c : Controller) (st : ℕ) (es : List Call) → c.session.station ≡ st → no_session c ≡ false
    → ends_within c (reaching st es) ≡ false
    → (after_all c es).session ≡ (after_all c (reaching st es)).session
left_out c st es k o f =
    let t : Together c c es (reaching st es) = alone st es c c (record { settings = refl; session = refl }) k o in t.until (t.ends ∙ f)

module _ (c d : Controller) (ks ls : List Call) (o : no_session c ≡ false) (a : Alike c d)
    (same : reaching c.session.station ks ≡ reaching c.session.station ls) where
  abbrev st : ℕ
  st = c.session.station

  left : Together c c ks (reaching st ks)
  left = alone st ks c c (record { settings = refl; session = refl }) refl o

  right : Together d c ls (reaching st ls)
  right = alone st ls d c (back c d a) (ap (λ (z : Session). z.station) (sym a.session)) (sym (same_no_session c d a) ∙ o)

  -- within both or within neither
  pub ends_together : ends_within c ks ≡ ends_within d ls
  ends_together = left.ends ∙ (ap (ends_within c) same ∙ sym right.ends)

  -- and until then the same record
  pub same_until : ends_within c ks ≡ false → (after_all c ks).session ≡ (after_all d ls).session
  same_until f =
      left.until f ∙ (ap (λ (z : List Call). (after_all c z).session) same ∙ sym (right.until (sym ends_together ∙ f)))

-- what cannot reach the session never ends it
pub unreached_never_ends : (c : Controller) (e : Call) → no_session c ≡ false → reaches c.session.station e ≡ false
    → no_session (after c e) ≡ false
unreached_never_ends c e o h = same_no_session (after c e) c (unreached c e o h) ∙ o
