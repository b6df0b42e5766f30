-- The parts of the list one after another.
use Rattle.std.proofs.Common.{ap, ◌++◌, ◌∙◌, map}
use Rattle.std.specs.List.{filter, flat_map}
use Rattle.stacking.specs.declared.members.Side.{Side}
use Rattle.stacking.specs.declared.members.Side.TheVariants as side
use Rattle.stacking.specs.Painting.{OneItem, head, body, entries, context_members, listed_member}
use Rattle.stacking.specs.OnPage.{of_node, on_side}
use Rattle.stacking.specs.Lists.{numbered}
use Rattle.stacking.proofs.SeenLemmas.{appended_five, list-on}
use Rattle.stacking.proofs.lists.lists_of.Goals as goal

pub returns : goal.returns
returns c =
    let page = c.args.page.now.contents in
    let given = numbered c.args.page.now.items in
    let on = λ (s : Side). flat_map (λ m. map given (listed_member m)) (filter (on_side s) (of_node context_members page c.args.context)) in
    appended_five c.new-list.result.items (map given (map OneItem (of_node head page c.args.context))) (on side.Below) (map given (map OneItem (of_node body page c.args.context))) (on side.Zero) (on side.Above)
    c.list_head.new.list.items c.list_members.new.list.items c.list_body.new.list.items c.list_members-2.new.list.items _ _
    c.in_ok-list_head.ensures c.in_ok-list_members.ensures c.in_ok-list_body.ensures c.in_ok-list_members-2.ensures c.in_ok-list_members-3.ensures (list-on page c.args.context given)
    ∙ ap (λ xs. xs ++ map given (of_node entries page c.args.context)) c.new-list.ensures.items
