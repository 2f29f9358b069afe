-- Of a lent buffer nothing but its length is read: calls that lend other contents lead to the same controllers, and the
-- same is seen of the session and beside it. Assumes nothing.
use Prim.Native.Nat.{ℕ}
use mathlib.Core.Path.{◌≡◌, refl}
use mathlib.Core.Bool.{Bool, true, false, cond}
use mathlib.Core.List.{List, [], ◌∷◌, map}
use lib.IntN.{ℤ}
use lib.ListN.{length, replicate, length-replicate}
use Rattle.readings.specs.declared.Readings.{Readings}
use Rattle.controller.specs.declared.Controller.{Controller}
use Rattle.demands.specs.Machine.{Call, Receive, Tick, Write, Read}
use Rattle.demands.specs.After.{accepts, after, ends_within}
use Rattle.demands.specs.Apart.{reaches, emptied, reaching, sent_at, moments, life}
use Rattle.demands.specs.Unmoved.{is_charge_message, others, beside_at, output_at, outputs}

accepts_emptied : (r : Readings) (v : List ℕ) (t : List ℤ) (old : List ℕ)
    → accepts r v t (replicate (length old) 0) ≡ accepts r v t old
unfolding accepts
accepts_emptied r v t old = rw (length-replicate {A = ℕ} (length old) 0)

-- ---- one call
module _ (c : Controller) where
  after_emptied : (k : Call) → after c (emptied k) ≡ after c k
  unfolding after emptied
  after_emptied (Receive id s) = refl
  after_emptied (Tick r v t old) = rw (accepts_emptied r v t old)
  after_emptied (Write old) = refl
  after_emptied (Read s) = refl

  moments_emptied : (k : Call) → moments c (emptied k) ≡ moments c k
  unfolding moments emptied sent_at after
  moments_emptied (Receive id s) = refl
  moments_emptied (Tick r v t old) = rw (length-replicate {A = ℕ} (length old) 0, accepts_emptied r v t old)
  moments_emptied (Write old) = refl
  moments_emptied (Read s) = refl

  output_emptied : (k : Call) → output_at c (emptied k) ≡ output_at c k
  unfolding output_at emptied beside_at
  output_emptied (Receive id s) = refl
  output_emptied (Tick r v t old) = rw (length-replicate {A = ℕ} (length old) 0, accepts_emptied r v t old)
  output_emptied (Write old) = refl
  output_emptied (Read s) = refl

reaches_emptied : (st : ℕ) (k : Call) → reaches st (emptied k) ≡ reaches st k
unfolding reaches emptied
reaches_emptied st (Receive id s) = refl
reaches_emptied st (Tick r v t old) = refl
reaches_emptied st (Write old) = refl
reaches_emptied st (Read s) = refl

charge_emptied : (k : Call) → is_charge_message (emptied k) ≡ is_charge_message k
unfolding is_charge_message emptied
charge_emptied (Receive id s) = refl
charge_emptied (Tick r v t old) = refl
charge_emptied (Write old) = refl
charge_emptied (Read s) = refl

-- ---- any list of them
map_if : (b : Bool) (k : Call) (ks : List Call)
    → cond b (emptied k ∷ map emptied ks) (map emptied ks) ≡ map emptied (cond b (k ∷ ks) ks)
map_if true k ks = refl
map_if false k ks = refl

pub reaching_emptied : (st : ℕ) (ks : List Call) → reaching st (map emptied ks) ≡ map emptied (reaching st ks)
unfolding reaching
reaching_emptied st [] = refl
reaching_emptied st (k ∷ ks) = rw (reaches_emptied st k, reaching_emptied st ks) (map_if (reaches st k) k (reaching st ks))

if_map : (b : Bool) (k : Call) (ks : List Call)
    → cond b (map emptied ks) (emptied k ∷ map emptied ks) ≡ map emptied (cond b ks (k ∷ ks))
if_map true k ks = refl
if_map false k ks = refl

pub others_emptied : (ks : List Call) → others (map emptied ks) ≡ map emptied (others ks)
unfolding others
others_emptied [] = refl
others_emptied (k ∷ ks) = rw (charge_emptied k, others_emptied ks) (if_map (is_charge_message k) k (others ks))

pub life_emptied : (ks : List Call) (c : Controller) → life c (map emptied ks) ≡ life c ks
unfolding life
life_emptied [] c = refl
life_emptied (k ∷ ks) c = rw (moments_emptied c k, after_emptied c k, life_emptied ks (after c k))

pub ends_emptied : (ks : List Call) (c : Controller) → ends_within c (map emptied ks) ≡ ends_within c ks
unfolding ends_within
ends_emptied [] c = refl
ends_emptied (k ∷ ks) c = rw (after_emptied c k, ends_emptied ks (after c k))

pub outputs_emptied : (ks : List Call) (c : Controller) → outputs c (map emptied ks) ≡ outputs c ks
unfolding outputs
outputs_emptied [] c = refl
outputs_emptied (k ∷ ks) c = rw (output_emptied c k, after_emptied c k, outputs_emptied ks (after c k))
