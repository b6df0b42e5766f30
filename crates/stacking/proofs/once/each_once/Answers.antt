-- One more id is new where it isn't among those seen.
use Rattle.std.proofs.Common.{◌≡◌, ℕ, ◌≤◌, ◌++◌, ◌∷◌, [], List, Bool, not, take, get_or, ap, sym, ◌∙◌, subst, arith}
use Rattle.std.specs.Prelude.{if◌then◌else◌}
use Rattle.std.proofs.lemmas.List.{take_all}
use Rattle.box_tree.specs.Planned.{is_among, times_in}
use Rattle.stacking.proofs.RenewLemmas.{same-more, once-more, seen-more, take-more}
use Rattle.stacking.proofs.once.each_once.Goals as goal

pub loop-id-preserved : goal.loop-id-preserved
loop-id-preserved c =
    let ids = c.args.ids.now in
    let k = c.loop-id.id-index in
    let id = get_or ids k 0 in
    let before = c.loop-id.invariant in
    let more = take-more ids k (omega arith) in
    let is_new = c.in_ok-is_new.ensures.added ∙ ap (λ (b : Bool). not b) (before.seen_is id) in
    let once_is = c.in_ok-push_if.ensures ∙ ap (λ (b : Bool). c.loop-id.once.items ++ (if b then id ∷ [] else [])) is_new in
    record {
      same = λ q. ap (λ (xs : List ℕ). is_among xs q) once_is ∙ same-more c.loop-id.once.items (take k ids) id q before.same ∙ ap (λ (xs : List ℕ). is_among xs q) (sym more);
      once = λ q. subst (λ (xs : List ℕ). times_in q xs ≤ 1) (sym once_is) (once-more c.loop-id.once.items (take k ids) id q before.same (before.once q));
      seen_is = λ q. c.in_ok-is_new.ensures.updates.0 q ∙ seen-more (take k ids) id q _ (before.seen_is q) ∙ ap (λ (xs : List ℕ). is_among xs q) (sym more);
    }

pub returns : goal.returns
returns c =
    let all : take c.loop-id.id-index c.args.ids.now ≡ c.args.ids.now = take_all c.loop-id.id-index c.args.ids.now (omega arith) in
    record {
      same = λ q. c.loop-id.invariant.same q ∙ ap (λ (xs : List ℕ). is_among xs q) all;
      once = c.loop-id.invariant.once;
    }
