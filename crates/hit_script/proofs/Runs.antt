-- Replies and pages over lines that go on.
use Rattle.std.proofs.Common.{◌≡◌, ◌<◌, ℕ, suc, eqb, true, false, List, [], ◌∷◌, ◌++◌, length, refl, ap, sym, ◌∙◌, append_assoc, arith}
use Rattle.std.proofs.lemmas.Bool.{both_ways, eqb-true}
use Rattle.hit_script.specs.Lines.{lines, whole_lines, unfinished}
use Rattle.hit_script.specs.Script.{Scene, answer_to, replies_from, scene_behind}
use Rattle.hit_script.proofs.LineLaws.{whole_and_unfinished, whole_lines_more, lines_behind_whole, no_lines}

pub replies_from-append : (scene : Scene) (xs ys : List (List ℕ)) → replies_from scene (xs ++ ys) ≡ replies_from scene xs ++ replies_from (scene_behind scene xs) ys
replies_from-append scene [] ys = refl
replies_from-append scene (x ∷ xs) ys = rw (replies_from-append (answer_to scene x).scene xs ys) (sym (append_assoc (answer_to scene x).reply _ _))

pub scene_behind-append : (scene : Scene) (xs ys : List (List ℕ)) → scene_behind scene (xs ++ ys) ≡ scene_behind (scene_behind scene xs) ys
scene_behind-append scene [] ys = refl
scene_behind-append scene (x ∷ xs) ys = scene_behind-append (answer_to scene x).scene xs ys

-- the whole lines of a text that goes on
pub lines_more : (bytes more : List ℕ) → lines (whole_lines (bytes ++ more)) ≡ lines (whole_lines bytes) ++ lines (whole_lines (unfinished bytes ++ more))
lines_more bytes more = rw (whole_lines_more bytes more) (lines_behind_whole bytes (whole_lines (unfinished bytes ++ more)))

-- all lines of a text that goes on
pub all_lines_more : (bytes more : List ℕ) → lines (bytes ++ more) ≡ lines (whole_lines bytes) ++ lines (unfinished bytes ++ more)
all_lines_more bytes more =
    let split : bytes ++ more ≡ whole_lines bytes ++ (unfinished bytes ++ more) = ap (λ b. b ++ more) (sym (whole_and_unfinished bytes)) ∙ append_assoc (whole_lines bytes) (unfinished bytes) more in
    ap lines split ∙ lines_behind_whole bytes (unfinished bytes ++ more)

-- The last line, which has no newline.
