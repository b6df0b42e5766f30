use Rattle.std.proofs.Common.{rules, ◌↔◌, IsTrue, to_z, of_z, w64}
use Rattle.std.specs.Int.Signed.{le_z}
use Rattle.fractions.specs.Rect.{IsEmpty}
use Rattle.fractions.proofs.RectLemmas.{IsEmpty-points}
use Rattle.fractions.proofs.rect.Rect.is_empty.Goals as goal

pub returns-else-self-clause-points : goal.returns-else-self-clause-points
returns-else-self-clause-points c =
    let edges : IsTrue (le_z (to_z w64 (of_z w64 c.args.self.now.b)) (to_z w64 (of_z w64 c.args.self.now.t))) ↔ IsEmpty c.args.self.now = search rules in
    let points = IsEmpty-points c.args.self.now in
    (λ yes. points.0 (edges.0 yes), λ none. edges.1 (points.1 none))
