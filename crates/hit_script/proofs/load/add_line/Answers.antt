use Rattle.std.proofs.Common.{ℕ, List, ◌++◌, ap, ap₂, codes, ◌∙◌}
use Rattle.std.proofs.lemmas.Result.{IfOk-weaker}
use Rattle.hit_script.proofs.load.add_line.Goals as goal

pub returns : goal.returns
returns c =
    let boxed = c.in_ok-line.ensures ∙ ap₂ (λ (place one_box : List ℕ). place ++ one_box) c.in_ok-place.ensures (c.deref.ensures ∙ c.in_ok-one_box.ensures) in
    let named = c.in_ok-line-2.ensures ∙ ap (λ (text : List ℕ). text ++ codes ",\"style\":") boxed in
    let styled = c.in_ok-line-3.ensures ∙ ap (λ (text : List ℕ). text ++ c.args.style.now) named in
    IfOk-weaker c.followed_by-4.result _ _ (λ line is. is ∙ ap (λ (text : List ℕ). text ++ codes "}") styled) c.followed_by-4.ensures
