-- What rules of multisets are, by the operands and by the parts of the view.
use Rattle.std.proofs.Common.{◌≡◌, refl, true, false, [], ◌∷◌}
use Rattle.ess_semantics.specs.declared.words.Op1.{Op1}
use Rattle.ess_semantics.specs.declared.words.Op2.{Op2}
use Rattle.ess_semantics.specs.declared.words.Fun.{Fun}
use Rattle.ess_semantics.specs.declared.words.ReprKind.{ReprKind}
use Rattle.ess_semantics.specs.Lists.{and_then}
use Rattle.ess_semantics.specs.Values.{Text}
use Rattle.ess_semantics.specs.Trees.{repr, no_reprs, more_reprs, unary, binary, word, Ex, node_ex, ex1, ex2, seen_ex, no_exs, more_exs, mset_dom}
use Rattle.ess_rules_forms.specs.Forms.{truth_pair, of_pair}
use Rattle.ess_views_laws.specs.MultisetViews.{multiset_size, multiset_frequency, multiset_member}
use Rattle.ess_rules_kinds.specs.ViewParts.{leaf, leaf_view, nested}
use Rattle.ess_rules_multisets.specs.Asked.{a_size, a_frequency, frequency_of, size_of_parts, frequency_of_parts}

-- ---- sizes

-- By the operand.
pub size_by_operand : (x : Text) (n e : Ex) → multiset_size x n e ≡ and_then (a_size e) (λ v. multiset_size x n (ex1 false Op1.Bar v))
size_by_operand x n (ex1 false Op1.Bar v) = refl
size_by_operand x n (node_ex false (unary Op1.Bar)
    (more_exs (seen_ex (repr ReprKind.MSetOccurrence no_reprs) (mset_dom ms es d) (t ∷ []) js) (more_exs u us))) = refl
size_by_operand x n (node_ex false (unary Op1.Bar)
    (more_exs (seen_ex (repr ReprKind.MSetExplicitWithRepetition (more_reprs r no_reprs)) (mset_dom ms es d) (m ∷ ns) js) (more_exs u us))) = refl
size_by_operand x n (node_ex false (unary Op1.Bar)
    (more_exs (seen_ex (repr ReprKind.MSetExplicitWithFlags (more_reprs r no_reprs)) (mset_dom ms es d) (t ∷ ns) js) (more_exs u us))) = refl
size_by_operand x n e = refl

-- By the parts of the view.
pub size_by_parts : (x : Text) (n v : Ex) → multiset_size x n (ex1 false Op1.Bar v) ≡ size_of_parts x n (leaf v) (nested v)
size_by_parts x n (seen_ex (repr k no_reprs) d (t ∷ []) js) = refl
size_by_parts x n (seen_ex (repr k (more_reprs r no_reprs)) d ns js) = refl
size_by_parts x n (seen_ex (repr ReprKind.MSetOccurrence no_reprs) (mset_dom ms es d) [] js) = refl
size_by_parts x n (seen_ex (repr ReprKind.MSetOccurrence no_reprs) (mset_dom ms es d) (t ∷ u ∷ ns) js) = refl
size_by_parts x n (seen_ex (repr ReprKind.MSetOccurrence (more_reprs r (more_reprs q rs))) d ns js) = refl
size_by_parts x n (seen_ex (repr ReprKind.MSetExplicitWithRepetition no_reprs) d [] js) = refl
size_by_parts x n (seen_ex (repr ReprKind.MSetExplicitWithRepetition no_reprs) d (t ∷ u ∷ ns) js) = refl
size_by_parts x n (seen_ex (repr ReprKind.MSetExplicitWithRepetition (more_reprs r (more_reprs q rs))) d ns js) = refl
size_by_parts x n (seen_ex (repr ReprKind.MSetExplicitWithFlags no_reprs) d [] js) = refl
size_by_parts x n (seen_ex (repr ReprKind.MSetExplicitWithFlags no_reprs) d (t ∷ u ∷ ns) js) = refl
size_by_parts x n (seen_ex (repr ReprKind.MSetExplicitWithFlags (more_reprs r (more_reprs q rs))) d ns js) = refl
size_by_parts x n v = refl

-- ---- frequencies

-- By the operands.
pub frequency_by_operands : (x : Text) (n e : Ex)
    → multiset_frequency x n e ≡ and_then (a_frequency e) (λ p. multiset_frequency x n (frequency_of p.0 p.1))
frequency_by_operands x n (node_ex false (word Fun.Freq) (more_exs v (more_exs a no_exs))) = refl
frequency_by_operands x n (node_ex false (word Fun.Freq)
    (more_exs (seen_ex (repr ReprKind.MSetOccurrence no_reprs) (mset_dom ms es d) (t ∷ []) js) no_exs)) = refl
frequency_by_operands x n (node_ex false (word Fun.Freq)
    (more_exs (seen_ex (repr ReprKind.MSetOccurrence no_reprs) (mset_dom ms es d) (t ∷ []) js)
    (more_exs a (more_exs u us)))) = refl
frequency_by_operands x n (node_ex false (word Fun.Freq)
    (more_exs (seen_ex (repr ReprKind.MSetExplicitWithFlags (more_reprs r no_reprs)) (mset_dom ms es d) (t ∷ ns) js) no_exs)) = refl
frequency_by_operands x n (node_ex false (word Fun.Freq)
    (more_exs (seen_ex (repr ReprKind.MSetExplicitWithFlags (more_reprs r no_reprs)) (mset_dom ms es d) (t ∷ ns) js)
    (more_exs a (more_exs u us)))) = refl
frequency_by_operands x n e = refl

-- By the parts of the view.
pub frequency_by_parts : (x : Text) (n v a : Ex)
    → multiset_frequency x n (frequency_of v a) ≡ frequency_of_parts x n a (leaf v) (nested v)
frequency_by_parts x n (seen_ex (repr k no_reprs) d (t ∷ []) js) a = refl
frequency_by_parts x n (seen_ex (repr k (more_reprs r no_reprs)) d ns js) a = refl
frequency_by_parts x n (seen_ex (repr ReprKind.MSetOccurrence no_reprs) (mset_dom ms es d) [] js) a = refl
frequency_by_parts x n (seen_ex (repr ReprKind.MSetOccurrence no_reprs) (mset_dom ms es d) (t ∷ u ∷ ns) js) a = refl
frequency_by_parts x n (seen_ex (repr ReprKind.MSetOccurrence (more_reprs r (more_reprs q rs))) d ns js) a = refl
frequency_by_parts x n (seen_ex (repr ReprKind.MSetExplicitWithFlags no_reprs) d [] js) a = refl
frequency_by_parts x n (seen_ex (repr ReprKind.MSetExplicitWithFlags no_reprs) d (t ∷ u ∷ ns) js) a = refl
frequency_by_parts x n (seen_ex (repr ReprKind.MSetExplicitWithFlags (more_reprs r (more_reprs q rs))) d ns js) a = refl
frequency_by_parts x n v a = refl

-- ---- membership

-- By the operands.
pub member_by_pair : (x : Text) (e : Ex) → multiset_member x e ≡ of_pair (multiset_member x) (truth_pair e)
member_by_pair x (ex2 true Op2.Member a v) = refl
member_by_pair x (node_ex true (binary Op2.Member)
    (more_exs a (more_exs (seen_ex (repr ReprKind.MSetOccurrence no_reprs) (mset_dom ms es d) (t ∷ []) js) (more_exs u us)))) = refl
member_by_pair x (ex2 true o a v) = refl
member_by_pair x e = refl

-- By the parts of the view.
pub member_by_parts : (x : Text) (a v : Ex)
    → multiset_member x (ex2 true Op2.Member a v) ≡ and_then (leaf v) (λ p. multiset_member x (ex2 true Op2.Member a (leaf_view p)))
member_by_parts x a (seen_ex (repr k no_reprs) d (t ∷ []) js) = refl
member_by_parts x a (seen_ex (repr ReprKind.MSetOccurrence no_reprs) (mset_dom ms es d) [] js) = refl
member_by_parts x a (seen_ex (repr ReprKind.MSetOccurrence no_reprs) (mset_dom ms es d) (t ∷ u ∷ ns) js) = refl
member_by_parts x a (seen_ex (repr ReprKind.MSetOccurrence (more_reprs r rs)) d ns js) = refl
member_by_parts x a v = refl
