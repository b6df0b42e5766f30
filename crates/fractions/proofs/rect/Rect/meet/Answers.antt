use Rattle.std.proofs.Common.{rules}
use Rattle.fractions.proofs.RectLemmas.{int_max-of_bits, int_min-of_bits, Holds-meet}
use Rattle.fractions.proofs.rect.Rect.meet.Goals as goal

pub returns-clause-left : goal.returns-clause-left
returns-clause-left c =
    int_max-of_bits c.args.self.now.l c.args.other.now.l c.max.result
    (search rules) (search rules) (search rules) c.max.ensures.value

pub returns-clause-top : goal.returns-clause-top
returns-clause-top c =
    int_max-of_bits c.args.self.now.t c.args.other.now.t c.max-2.result
    (search rules) (search rules) (search rules) c.max-2.ensures.value

pub returns-clause-right : goal.returns-clause-right
returns-clause-right c =
    int_min-of_bits c.args.self.now.r c.args.other.now.r c.min.result
    (search rules) (search rules) (search rules) c.min.ensures.value

pub returns-clause-bottom : goal.returns-clause-bottom
returns-clause-bottom c =
    int_min-of_bits c.args.self.now.b c.args.other.now.b c.min-2.result
    (search rules) (search rules) (search rules) c.min-2.ensures.value

pub returns-clause-points : goal.returns-clause-points
returns-clause-points c =
    Holds-meet c.args.self.now c.args.other.now _
    (returns-clause-left c) (returns-clause-top c) (returns-clause-right c) (returns-clause-bottom c)
