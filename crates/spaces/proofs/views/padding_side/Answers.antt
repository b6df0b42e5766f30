-- What borders leave of the side is computed as it is defined.
use Rattle.std.proofs.Common.{◌*ℤ◌, pos, ap, ◌∙◌}
use Rattle.spaces.proofs.ViewLemmas.{fine-read, rest-read, rest-read-side}
use Rattle.spaces.proofs.views.padding_side.Goals as goal

pub in_fine_units-requires : goal.in_fine_units-requires
in_fine_units-requires c =
    rest-read-side c.args.side c.args.first c.args.last c.max.result c.requires.side c.requires.first c.requires.last c.max.ensures.value

pub returns-clause-value : goal.returns-clause-value
returns-clause-value c =
    let rest = rest-read c.args.side c.args.first c.args.last c.max.result c.requires.side c.requires.first c.requires.last c.max.ensures.value in
    fine-read c.in_fine_units.result c.in_fine_units.ensures.range ∙ c.in_fine_units.ensures.value ∙ ap (λ z. pos 64 *ℤ z) rest
