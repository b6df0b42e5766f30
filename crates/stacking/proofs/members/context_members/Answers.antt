-- The members in tree order, and then level by level.
use Rattle.std.proofs.Common.{ap, ◌++◌, ◌∙◌, map, rules}
use Rattle.std.proofs.lemmas.List.Sorted.{answers_always}
use Rattle.stacking.specs.declared.members.Member.{Member}
use Rattle.stacking.specs.OnPage.{of_node, gathered, members_of, member_of}
use Rattle.stacking.proofs.OrderLemmas.{sorted-members}
use Rattle.stacking.proofs.SeenLemmas.{tree_members, members-gathered_on, members-sorted}
use Rattle.stacking.proofs.members.context_members.Goals as goal

pub returns : goal.returns
returns c =
    let keys = answers_always _ _ _ (λ f a r g h. search rules) in
    let before = c.in_ok-push_below.ensures ∙ ap (λ xs. xs ++ gathered members_of c.args.page.now.contents c.args.id) c.new-members.ensures.items ∙ members-gathered_on c.args.page.now.contents c.args.id in
    sorted-members _ _ (of_node tree_members c.args.page.now.contents c.args.id) before (c.in_ok-sort_by_key.ensures.sorted (λ (m : Member). m.level) keys) (c.sort_by_key.ensures.stable (λ (m : Member). m.level) keys)
    ∙ ap (map member_of) (members-sorted c.args.page.now.contents c.args.id)
