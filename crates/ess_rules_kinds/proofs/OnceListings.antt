-- Each member of a multiset once, by the parts of its view.
use Rattle.std.proofs.Common.{◌≡◌, refl, false, [], ◌∷◌}
use Rattle.ess_semantics.specs.declared.words.Fun.{Fun}
use Rattle.ess_semantics.specs.declared.words.ReprKind.{ReprKind}
use Rattle.ess_semantics.specs.Values.{Text}
use Rattle.ess_semantics.specs.Trees.{repr, no_reprs, more_reprs, word, Ex, node_ex, fun1, no_exs, more_exs, seen_ex, mset_dom}
use Rattle.ess_rules_forms.specs.Forms.{plain_word}
use Rattle.ess_views_laws.specs.MultisetViews.{members_once}
use Rattle.ess_rules_kinds.specs.ViewParts.{leaf, nested}
use Rattle.ess_rules_kinds.specs.OnceParts.{once_of_word, once_of_parts}

-- It is a word on one operand.
pub once_by_word : (x : Text) (n e : Ex) → members_once x n e ≡ once_of_word x n (plain_word e)
once_by_word x n (fun1 false f v) = refl
once_by_word x n (node_ex false (word Fun.ToSet) no_exs) = refl
once_by_word x n (node_ex false (word Fun.ToSet)
    (more_exs (seen_ex (repr ReprKind.MSetOccurrence no_reprs) (mset_dom ms es d) (t ∷ []) js) (more_exs u us))) = refl
once_by_word x n (node_ex false (word Fun.ToSet)
    (more_exs (seen_ex (repr ReprKind.MSetExplicitWithFlags (more_reprs r no_reprs)) (mset_dom ms es d) (t ∷ ns) js) (more_exs u us))) = refl
once_by_word x n e = refl

-- And the operand a view.
pub once_by_parts : (x : Text) (n v : Ex) → members_once x n (fun1 false Fun.ToSet v) ≡ once_of_parts x n (leaf v) (nested v)
once_by_parts x n (seen_ex (repr k no_reprs) d (t ∷ []) js) = refl
once_by_parts x n (seen_ex (repr k (more_reprs r no_reprs)) d ns js) = refl
once_by_parts x n (seen_ex (repr ReprKind.MSetOccurrence no_reprs) (mset_dom ms es d) [] js) = refl
once_by_parts x n (seen_ex (repr ReprKind.MSetOccurrence no_reprs) (mset_dom ms es d) (t ∷ u ∷ ns) js) = refl
once_by_parts x n (seen_ex (repr ReprKind.MSetOccurrence (more_reprs r (more_reprs q rs))) d ns js) = refl
once_by_parts x n (seen_ex (repr ReprKind.MSetExplicitWithFlags no_reprs) d [] js) = refl
once_by_parts x n (seen_ex (repr ReprKind.MSetExplicitWithFlags no_reprs) d (t ∷ u ∷ ns) js) = refl
once_by_parts x n (seen_ex (repr ReprKind.MSetExplicitWithFlags (more_reprs r (more_reprs q rs))) d ns js) = refl
once_by_parts x n v = refl
