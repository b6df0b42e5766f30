-- A forest as a list of tokens, by which proofs tell two forests apart: the node of a tree, its children and then the
-- other trees, with a mark where a list of trees ends.
use Rattle.std.specs.Prelude.{◌≡◌, List, [], ◌∷◌, ◌++◌, Option, Some, None}
use Rattle.std.proofs.Common.{refl, sym, ap, ◌∙◌, append_assoc}
use Rattle.std.proofs.lemmas.List.{append-nil}
use Rattle.std.specs.Coded.{Coded, code_by, coded_list, coded_option}
use Rattle.box_tree.specs.Forest.{Label, Forest, End, Grow}

abbrev pub tokens_of : Forest → List (Option Label)
tokens_of End = None ∷ []
tokens_of (Grow n below others) = Some n ∷ (tokens_of below ++ tokens_of others)

-- one token read before the forests that follow it
abbrev pub read_token : Option Label → List Forest → List Forest
read_token None forests = End ∷ forests
read_token (Some n) (below ∷ (others ∷ forests)) = Grow n below others ∷ forests
read_token (Some n) forests = forests

abbrev pub read_tokens : List (Option Label) → List Forest
read_tokens [] = []
read_tokens (token ∷ tokens) = read_token token (read_tokens tokens)

abbrev pub first_forest : List Forest → Forest
first_forest [] = End
first_forest (f ∷ forests) = f

pub read-tokens_of : (f : Forest) (tokens : List (Option Label)) → read_tokens (tokens_of f ++ tokens) ≡ f ∷ read_tokens tokens
read-tokens_of End tokens = refl
read-tokens_of (Grow n below others) tokens =
    ap (λ ts. read_token (Some n) (read_tokens ts)) (append_assoc (tokens_of below) (tokens_of others) tokens)
    ∙ ap (read_token (Some n)) (read-tokens_of below (tokens_of others ++ tokens) ∙ ap (λ fs. below ∷ fs) (read-tokens_of others tokens))

pub first-tokens_of : (f : Forest) → first_forest (read_tokens (tokens_of f)) ≡ f
first-tokens_of f = ap (λ ts. first_forest (read_tokens ts)) (sym (append-nil (tokens_of f))) ∙ ap first_forest (read-tokens_of f [])

abbrev pub forest_code : Coded Label → Coded Forest
forest_code label = code_by (List (Option Label)) (coded_list (coded_option label)) tokens_of (λ ts. first_forest (read_tokens ts)) first-tokens_of
