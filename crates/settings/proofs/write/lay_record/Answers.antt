-- Front, stations and versions, laid one after the other.
use Rattle.std.proofs.Common.{ℕ, sym, ap, List, [], ◌∷◌, take}
use native.Mathlib.Nat.{sub-zero}
use Rattle.buffers.proofs.Laws.{laid_then, laid_eq}
use Rattle.settings.proofs.write.lay_record.Goals as goal

pub returns : goal.returns
returns c =
    let s = c.args.x.stations in
    let t : List ℕ = s.first ∷ s.second ∷ s.third ∷ s.fourth ∷ [] in
    let middle = laid_eq c.lay-b.ensures (ap (λ (k : ℕ). take k t) (sub-zero s.count)) in
    laid_eq (laid_then c.lay-a.ensures (laid_then middle c.lay.ensures)) (sym c.front-f.ensures.1)
