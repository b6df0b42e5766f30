use Rattle.std.proofs.Common.{false, sym, ◌∙◌, subst}
use Rattle.std.proofs.lemmas.Bool.{false≢true}
use Rattle.paint_order.specs.declared.entry.Entry.TheVariants.{Item}
use Rattle.paint_order.specs.Places.{ArePlaced}
use Rattle.paint_order.proofs.TableLemmas.{nowhere-without_place, stands-at_place}
use Rattle.paint_order.proofs.PathLemmas.{member-standing}
use Rattle.paint_order.proofs.forest.Forest.stands.Goals as goal

pub returns-in-None-clause-stands : goal.returns-in-None-clause-stands
returns-in-None-clause-stands g c =
    let lists = c.args.self.now.lists in
    let placed = subst (λ f. ArePlaced f.lists c.self.inside.places) c.self.view_is c.self.invariant.placed in
    (λ h. absurd (false≢true h), λ s. absurd (nowhere-without_place lists c.self.inside.places (Item c.args.item) placed (sym c.of_item.ensures ∙ c.in-None.is) s))

pub returns-in-None-clause-painted : goal.returns-in-None-clause-painted
returns-in-None-clause-painted g c =
    member-standing c.args.self.now.lists c.args.self.now.root c.args.item 256 false (returns-in-None-clause-stands g c)

pub returns-in-Some-clause-stands : goal.returns-in-Some-clause-stands
returns-in-Some-clause-stands g c =
    let lists = c.args.self.now.lists in
    let at = c.in-Some.place in
    let placed = subst (λ f. ArePlaced f.lists c.self.inside.places) c.self.view_is c.self.invariant.placed in
    (λ h. (at.list, at.at, c.stands_at.ensures.0 h), λ s. c.stands_at.ensures.1 (stands-at_place lists c.self.inside.places (Item c.args.item) placed s at (sym c.of_item.ensures ∙ c.in-Some.is)))

pub returns-in-Some-clause-painted : goal.returns-in-Some-clause-painted
returns-in-Some-clause-painted g c =
    member-standing c.args.self.now.lists c.args.self.now.root c.args.item 256 c.stands_at.result (returns-in-Some-clause-stands g c)
