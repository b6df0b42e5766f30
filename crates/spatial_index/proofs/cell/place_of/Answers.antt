use Rattle.std.proofs.Common.{◌∙◌, sym}
use Rattle.spatial_index.proofs.TimesLemmas.{times-None, IfSome-position}
use Rattle.spatial_index.proofs.cell.place_of.Goals as goal

pub returns-clause-there : goal.returns-clause-there
returns-clause-there c = IfSome-position c.args.item c.args.items.now c.first_place_of.result c.first_place_of.ensures

pub returns-clause-nowhere : goal.returns-clause-nowhere
returns-clause-nowhere c none = times-None c.args.item c.args.items.now (sym c.first_place_of.ensures ∙ none)
