-- What the rules together make of a root, with the reserved names that they take.
use Rattle.std.proofs.Common.{
  ◌≡◌,
  refl,
  sym,
  ap,
  ◌∙◌,
  subst,
  ℕ,
  zero,
  suc,
  ◌+◌,
  ◌≤◌,
  Bool,
  true,
  false,
  if◌then◌else◌,
  List,
  [],
  ◌∷◌,
  ◌++◌,
  Option,
  Some,
  arith,
}
use Rattle.std.specs.Prelude.{option_map}
use Rattle.ess_semantics.specs.Values.{Text}
use Rattle.ess_semantics.specs.Names.{Names}
use Rattle.ess_semantics.specs.Trees.{Ex}
use Rattle.ess_semantics.specs.Types.{Ty}
use Rattle.ess_core_nodes.specs.declared.nodes.Node.{Node}
use Rattle.ess_core_nodes.specs.NodeViews.{pure_node}
use Rattle.conjure_model_laws.specs.ToldApart.{reserved, told_apart}
use Rattle.ess_refine_laws.specs.AllRules.{rewrite, least_under_a_condition}
use Rattle.ess_rules_listings.specs.Offered.{supply_of}
use Rattle.ess_kind_rules.specs.Supplies.{told_axis}
use Rattle.ess_rules.specs.Ruled.{
  Ruling,
  reserved_from,
  supply_at,
  plainly,
  puts_source,
  ruled,
  with_new_source,
  behind_ruling,
  behind_root,
  behind_copy,
  IsRuled,
}
use Rattle.ess_rules.specs.Supplies.{IsRewritten, IsSourcedBehind, IsRewrittenBehind}
use Rattle.ess_chain_names_laws.proofs.ToldNames.{on}
use Rattle.ess_rules.proofs.SourcedRoots.{root_up, copy_up}

-- The names that are taken are those of the supply at a number.
pub same-supply : (n k j : ℕ) (y z w : Text) (ys : List Text) → y ≡ reserved n → z ≡ reserved (n + 1) → w ≡ reserved (n + 2)
    → ys ≡ reserved_from (n + 3) k → j ≡ n + 3 + k → supply_of y z w ys told_axis (told_apart j) ≡ supply_at n k
same-supply n k j y z w ys p q r s e =
    ap (λ u. supply_of u z w ys told_axis (told_apart j)) p ∙ ap (λ u. supply_of (reserved n) u w ys told_axis (told_apart j)) q
    ∙ ap (λ u. supply_of (reserved n) (reserved (n + 1)) u ys told_axis (told_apart j)) r
    ∙ ap (λ u. supply_of (reserved n) (reserved (n + 1)) (reserved (n + 2)) u told_axis (told_apart j)) s
    ∙ ap (λ u. supply_of (reserved n) (reserved (n + 1)) (reserved (n + 2)) (reserved_from (n + 3) k) told_axis (told_apart u)) e

-- What a rule is used at that puts no source in, or one.
pub unless : {A : Type 0} (b : Bool) (x y : A) → b ≡ false → y ≡ (if b then x else y)
unless true x y h = cc
unless false x y h = refl

pub when : {A : Type 0} (b : Bool) (x y : A) → b ≡ true → x ≡ (if b then x else y)
when true x y h = refl
when false x y h = cc

-- A rule that takes no copy and puts no source in.
pub turned_by : (asked : List Ruling) (n k j m : ℕ) (g : Names Ty) (a : Ex) (y z w : Text) (ys : List Text) (o : Option Node) (x : Node)
    → y ≡ reserved n → z ≡ reserved (n + 1) → w ≡ reserved (n + 2) → ys ≡ reserved_from (n + 3) k → j ≡ n + 3 + k
    → IsRewritten asked (supply_of y z w ys told_axis (told_apart j)) g a (option_map pure_node o) → o ≡ Some x → m ≡ j
    → IsRuled n g a (pure_node x) m
turned_by asked n k j m g a y z w ys o x p q r s e h i l =
    let u : IsRewritten asked (supply_of y z w ys told_axis (told_apart j)) g a (Some (pure_node x)) =
    subst (λ v. IsRewritten asked (supply_of y z w ys told_axis (told_apart j)) g a (option_map pure_node v)) i h in
    let b : behind_ruling (n + 3 + k) u.0 a ≡ n + 3 + k = u.2 (n + 3 + k) in
    let d : n + 3 + k ≡ behind_root (n + 3 + k) u.0 a = unless (puts_source u.0) (with_new_source (n + 3 + k) a).1 (n + 3 + k) u.4 in
    record {
      count = k;
      rule = u.0;
      may = u.3;
      fires = ap (λ v. ruled (supply_at n k) g u.0 v) (sym (unless (puts_source u.0) (with_new_source (n + 3 + k) a).0 a u.4))
          ∙ ap (λ v. ruled v g u.0 a) (sym (same-supply n k j y z w ys p q r s e)) ∙ u.1;
      passes = subst (λ v. v ≤ m) (sym b) (omega (arith, l, e));
      passes_root = subst (λ v. v ≤ m) d (omega (arith, l, e));
    }

-- A rule that puts one in.
pub turned_sourced : (n k j m : ℕ) (g : Names Ty) (a : Ex) (y z w : Text) (ys : List Text) (o : Option Node) (x : Node)
    → y ≡ reserved n → z ≡ reserved (n + 1) → w ≡ reserved (n + 2) → ys ≡ reserved_from (n + 3) k → j ≡ n + 3 + k
    → IsSourcedBehind (supply_of y z w ys told_axis (told_apart j)) g a (option_map pure_node o) j m → o ≡ Some x
    → IsRuled n g a (pure_node x) m
turned_sourced n k j m g a y z w ys o x p q r s e h i =
    let u : IsSourcedBehind (supply_of y z w ys told_axis (told_apart j)) g a (Some (pure_node x)) j m =
    subst (λ v. IsSourcedBehind (supply_of y z w ys told_axis (told_apart j)) g a (option_map pure_node v) j m) i h in
    let b : behind_ruling (n + 3 + k) u.0 a ≡ n + 3 + k = u.2 (n + 3 + k) a in
    let d : (with_new_source (n + 3 + k) a).1 ≡ behind_root (n + 3 + k) u.0 a =
    when (puts_source u.0) (with_new_source (n + 3 + k) a).1 (n + 3 + k) u.4 in
    let t : j ≤ m = on j (with_new_source j a).1 m (root_up j a) u.5 in
    record {
      count = k;
      rule = u.0;
      may = u.3 a;
      fires = ap (λ v. ruled (supply_at n k) g u.0 v) (sym (when (puts_source u.0) (with_new_source (n + 3 + k) a).0 a u.4))
          ∙ ap (λ v. ruled (supply_at n k) g u.0 (with_new_source v a).0) (sym e)
          ∙ ap (λ v. ruled v g u.0 (with_new_source j a).0) (sym (same-supply n k j y z w ys p q r s e)) ∙ u.1;
      passes = subst (λ v. v ≤ m) (sym b) (omega (arith, t, e));
      passes_root = subst (λ v. v ≤ m) d (subst (λ v. (with_new_source v a).1 ≤ m) e u.5);
    }

-- The rule that takes a copy.
pub turned_behind : (n k j m : ℕ) (g : Names Ty) (a : Ex) (y z w : Text) (ys : List Text) (o : Option Node) (x : Node)
    → y ≡ reserved n → z ≡ reserved (n + 1) → w ≡ reserved (n + 2) → ys ≡ reserved_from (n + 3) k → j ≡ n + 3 + k
    → IsRewrittenBehind (supply_of y z w ys told_axis (told_apart j)) a (option_map pure_node o) j m → o ≡ Some x
    → IsRuled n g a (pure_node x) m
turned_behind n k j m g a y z w ys o x p q r s e h i =
    let u : IsRewrittenBehind (supply_of y z w ys told_axis (told_apart j)) a (Some (pure_node x)) j m =
    subst (λ v. IsRewrittenBehind (supply_of y z w ys told_axis (told_apart j)) a (option_map pure_node v) j m) i h in
    record {
      count = k;
      rule = plainly least_under_a_condition;
      may = u.2;
      fires = ap (λ v. rewrite v g least_under_a_condition a) (sym (same-supply n k j y z w ys p q r s e)) ∙ u.0;
      passes = subst (λ v. behind_copy v a ≤ m) e u.1;
      passes_root = subst (λ v. v ≤ m) e (on j (behind_copy j a) m (copy_up j a) u.1);
    }

-- ---- reserved names

names-more : (n k : ℕ) → reserved_from n (suc k) ≡ reserved_from n k ++ (reserved (n + k) ∷ [])
names-more n zero = ap (λ v. reserved v ∷ []) (omega arith)
names-more n (suc k) = ap (λ l. reserved n ∷ l) (names-more (suc n) k) ∙ ap (λ v. reserved n ∷ (reserved_from (suc n) k ++ (reserved v ∷ []))) (omega arith)

-- One name more.
pub reserved_more : (n k : ℕ) → reserved_from n (k + 1) ≡ reserved_from n k ++ (reserved (n + k) ∷ [])
reserved_more n k = let e : k + 1 ≡ suc k = omega arith in ap (reserved_from n) e ∙ names-more n k
