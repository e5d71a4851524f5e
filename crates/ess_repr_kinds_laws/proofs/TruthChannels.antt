-- Channels over tables that fit, of truth values too.
use Rattle.std.proofs.Common.{◌≡◌, refl, sym, ap, ◌∙◌, subst, Bool, true, false, List, [], ◌∷◌, Option, Some, None, ℤ, option_map}
use Rattle.ess_semantics.specs.declared.words.Op2.{Op2}
use Rattle.ess_semantics.specs.declared.words.ReprKind.{ReprKind}
use Rattle.ess_semantics.specs.Lists.{and_then, is_some_and}
use Rattle.ess_semantics.specs.Values.{Text, Value, truth}
use Rattle.ess_semantics.specs.Order.{same}
use Rattle.ess_semantics.specs.Trees.{binary, Repr, Reprs, repr, no_reprs, more_reprs, Dom, bool_dom}
use Rattle.ess_semantics.specs.Domains.{Domain, booleans}
use Rattle.ess_semantics.specs.Tables.{Tables, cell_at, is_cell, atom_value, truth_of}
use Rattle.ess_semantics.specs.Representations.{value_of_tables}
use Rattle.ess_semantics.specs.Declarations.{declarations, axes_of}
use Rattle.ess_semantics.specs.Operators.{false_where_undefined, value_of_node}
use Rattle.ess_semantics.specs.Meaning.{Env, meaning, seen_in}
use Rattle.ess_semantics.specs.Tidy.{over_axes}
use Rattle.ess_semantics.proofs.Orders.{same-itself, same-equal}
use Rattle.ess_semantics.proofs.Tests.{and-left}
use Rattle.ess_repr_laws.specs.Channel.{whole_view, channel, Seen}
use Rattle.ess_repr_laws.specs.CanonicalTables.{TablesFit}
use Rattle.ess_repr_laws.specs.Rooms.{Covered}
use Rattle.ess_repr_laws.proofs.CanonicalScalars.{boolean-stands}
use Rattle.ess_repr_laws.proofs.Channels.{whole-means}
use Rattle.ess_repr_laws.proofs.TablesWithin.{tables-within}
use Rattle.ess_repr_kinds_laws.specs.Laws.{Held, ChannelsOfFittingTables}

-- ---- one cell

abbrev atom : Repr
atom = repr ReprKind.Atom no_reprs

-- A cell that fits stands for a truth value.
cell-stands : (o : Option ℤ) → is_some_and o (is_cell booleans) ≡ true → (b : Bool) × (and_then o (atom_value booleans) ≡ Some (truth b))
cell-stands None h = cc
cell-stands (Some m) h = let s = boolean-stands m h in go (truth_of m) s.0 s.1
  where
    go : (o : Option Bool) (v : Value) → option_map truth o ≡ Some v → (b : Bool) × (option_map truth o ≡ Some (truth b))
    go (Some b) v h = (b, refl)
    go None v h = cc

-- So does a table of bool that fits.
atom-stands : (ts : Tables) → over_axes [] (axes_of atom booleans) ts ≡ true → TablesFit (declarations atom booleans) ts →
    (b : Bool) × (value_of_tables atom booleans ts [] ≡ Some (truth b))
atom-stands [] o f = absurd f
atom-stands (t ∷ []) o f =
    cell-stands (cell_at t [])
    (and-left (is_some_and (cell_at t []) (is_cell booleans)) true (tables-within (declarations atom booleans) (t ∷ []) (tt, tt) o f))
atom-stands (t ∷ u ∷ ts) o f = absurd f.2

-- No representation with children is one for bool.
no-child : (k : ReprKind) (s : Repr) → Covered (repr k (more_reprs s no_reprs)) booleans → ⊥
no-child ReprKind.Atom s c = c
no-child _ s c = c

no-children : (k : ReprKind) (s q : Repr) (rs : Reprs) → Covered (repr k (more_reprs s (more_reprs q rs))) booleans → ⊥
no-children ReprKind.Atom s q rs c = c
no-children _ s q rs c = c

truths-stand : (r : Repr) (ts : Tables) → Covered r booleans → over_axes [] (axes_of r booleans) ts ≡ true →
    TablesFit (declarations r booleans) ts → (b : Bool) × (value_of_tables r booleans ts [] ≡ Some (truth b))
truths-stand (repr k no_reprs) ts c o f = alone k c o f
  where
    alone : (k : ReprKind) → Covered (repr k no_reprs) booleans → over_axes [] (axes_of (repr k no_reprs) booleans) ts ≡ true →
        TablesFit (declarations (repr k no_reprs) booleans) ts →
        (b : Bool) × (value_of_tables (repr k no_reprs) booleans ts [] ≡ Some (truth b))
    alone ReprKind.Atom c o f = atom-stands ts o f
    alone _ c o f = absurd c
truths-stand (repr k (more_reprs s no_reprs)) ts c o f = absurd (no-child k s c)
truths-stand (repr k (more_reprs s (more_reprs q rs))) ts c o f = absurd (no-children k s q rs c)

-- ---- views

settled : (o : Option Value) (b : Bool) → o ≡ Some (truth b) → false_where_undefined true o ≡ o
settled o b e = ap (false_where_undefined true) e ∙ sym e

-- A view over tables that fit means what they stand for.
held-means : (env : Env) (d : Dom) (e : Domain) (r : Repr) (ns : List Text) (ts : Tables) → Held env d e r ns ts →
    meaning (whole_view r d ns) env ≡ value_of_tables r e ts []
held-means env bool_dom e r ns ts h =
    let s : Seen env bool_dom e ns ts = h.seen in
    let b : e ≡ booleans = let x : Some booleans ≡ Some e = s.denotes in cc in
    let c = subst (Covered r) b h.covered in
    let v = truths-stand r ts c (subst (λ x. over_axes [] (axes_of r x) ts ≡ true) b h.over)
    (subst (λ x. TablesFit (declarations r x) ts) b h.fit) in
    ap (λ o. false_where_undefined true (seen_in r (Some booleans) o (Some []))) s.found
    ∙ settled (value_of_tables r booleans ts []) v.0 v.1 ∙ ap (λ x. value_of_tables r x ts []) (sym b)
held-means env d e r ns ts h = whole-means env d e r ns ts refl h.seen

-- ---- channels

-- Whether two options hold one value.
abbrev same_there : Option Value → Option Value → Bool
same_there (Some v) (Some w) = same v w
same_there _ p = false

equal-means : (o p : Option Value) → false_where_undefined true (value_of_node (binary Op2.Eq) (o ∷ p ∷ [])) ≡ Some (truth (same_there o p))
equal-means (Some v) (Some w) = refl
equal-means (Some v) None = refl
equal-means None (Some w) = refl
equal-means None None = refl

one-value : (o p : Option Value) → same_there o p ≡ true → (v : Value) × (o ≡ Some v) × (p ≡ Some v)
one-value (Some v) (Some w) h = (v, refl, ap Some (sym (same-equal v w h)))
one-value (Some v) None h = cc
one-value None (Some w) h = cc
one-value None None h = cc

-- Channels over tables that fit say that both views stand for one value.
pub fitting-channels : ChannelsOfFittingTables
fitting-channels env d e r s ns ms ts us f g = record {
  only_same = λ h. let x = one-value R S (truth-is (same_there R S) (sym means ∙ h)) in (x.0, record { first = x.1; second = x.2 });
  same_is = λ v b. means ∙ ap (λ o. Some (truth (same_there o S))) b.first ∙ ap (λ o. Some (truth (same_there (Some v) o))) b.second
      ∙ ap (λ b. Some (truth b)) (same-itself v);
  of_values = λ v w a b. means ∙ ap (λ o. Some (truth (same_there o S))) a ∙ ap (λ o. Some (truth (same_there (Some v) o))) b;
  settled = (same_there R S, means);
}
  where
    R : Option Value
    R = value_of_tables r e ts []

    S : Option Value
    S = value_of_tables s e us []

    means : meaning (channel d r ns s ms) env ≡ Some (truth (same_there R S))
    means =
        ap (λ o. false_where_undefined true (value_of_node (binary Op2.Eq) (o ∷ meaning (whole_view s d ms) env ∷ [])))
        (held-means env d e r ns ts f)
        ∙ ap (λ o. false_where_undefined true (value_of_node (binary Op2.Eq) (R ∷ o ∷ []))) (held-means env d e s ms us g)
        ∙ equal-means R S

    truth-is : (b : Bool) → Some (truth b) ≡ Some (truth true) → b ≡ true
    truth-is true h = refl
    truth-is false h = cc
