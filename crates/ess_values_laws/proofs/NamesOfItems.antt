-- A name of a value of a named type is the name that the value has, where no two types have one name.
use Rattle.std.proofs.Common.{◌≡◌, refl, sym, ap, ◌∙◌, ℕ, suc, ◌+◌, Bool, true, false, ◌&&◌, ◌||◌, not, if◌then◌else◌, List, [], ◌∷◌, ◌++◌, map, Option, Some, None, nat_le, arith}
use Rattle.std.specs.Prelude.{codes}
use Rattle.ess_semantics.specs.Lists.{or_else, when, is_empty, or_default, item_number}
use Rattle.ess_semantics.specs.Values.{Text, Value, item}
use Rattle.ess_semantics.specs.Order.{same_text}
use Rattle.ess_semantics.specs.Names.{is_among, all_distinct}
use Rattle.ess_semantics.specs.Meaning.{TypeEntry, type_entry}
use Rattle.ess_semantics.specs.NameTokens.{are_digits}
use Rattle.ess_semantics.specs.Judgements.{after_prefix}
use Rattle.ess_semantics.specs.Assignments.{unnamed_name}
use Rattle.ess_semantics.specs.NameTokens.{value_after as number_of}
use Rattle.ess_semantics.specs.Literals.{unnamed_item, named_item, item_of_name}
use Rattle.ess_semantics.proofs.Tests.{and-left, and-right, not-true}
use Rattle.ess_values_laws.specs.ItemNames.{name_at, entry_name, item_name}
use Rattle.ess_values_laws.proofs.Options.{then-some, when-some}
use Rattle.ess_values_laws.proofs.TypeOrder.{same-text-equal, same-text-itself}

-- v is a value of the type t, whose entry names it a
abbrev EntryNames : TypeEntry → Text → Value → Type 0
EntryNames t a v = (k : ℕ) × (v ≡ item t.name k) × (entry_name t k ≡ a)

unnamed-named : (t : TypeEntry) (a : Text) (v : Value) → is_empty t.names ≡ true → unnamed_item t a ≡ Some v → EntryNames t a v
unnamed-named t a v n e =
    let ds = then-some (after_prefix (t.name ++ codes "_") a) (λ ds. let k : ℕ = number_of 0 ds in when (are_digits ds && same_text a (unnamed_name t.name k) && nat_le 1 k && nat_le k t.count) (item t.name k)) v e in
    let k : ℕ = number_of 0 ds.0 in
    let h = when-some (are_digits ds.0 && same_text a (unnamed_name t.name k) && nat_le 1 k && nat_le k t.count) (item t.name k) v ds.2 in
    let same = and-right (are_digits ds.0) (same_text a (unnamed_name t.name k)) (and-left (are_digits ds.0 && same_text a (unnamed_name t.name k)) (nat_le 1 k) (and-left (are_digits ds.0 && same_text a (unnamed_name t.name k) && nat_le 1 k) (nat_le k t.count) h.0)) in
    (k, sym h.1, ap (λ b. if b then unnamed_name t.name k else name_at t.names k) n ∙ sym (same-text-equal a (unnamed_name t.name k) same))

-- counted from k + 1
named-named : (t : Text) (k : ℕ) (ns : List Text) (a : Text) (v : Value) → named_item t (suc k) ns a ≡ Some v →
    (m : ℕ) × (i : ℕ) × (v ≡ item t (suc m)) × (m ≡ k + i) × (item_number ns i ≡ Some a)
named-named t k [] a v e = cc
named-named t k (n ∷ ns) a v e = go (same_text n a) refl e (named-named t (suc k) ns a v)
  where
    go : (b : Bool) → same_text n a ≡ b → (if b then Some (item t (suc k)) else named_item t (suc (suc k)) ns a) ≡ Some v →
        (named_item t (suc (suc k)) ns a ≡ Some v → (m : ℕ) × (i : ℕ) × (v ≡ item t (suc m)) × (m ≡ suc k + i) × (item_number ns i ≡ Some a)) →
        (m : ℕ) × (i : ℕ) × (v ≡ item t (suc m)) × (m ≡ k + i) × (item_number (n ∷ ns) i ≡ Some a)
    go true q e ih = (k, 0, (let f : item t (suc k) ≡ v = cc in sym f), omega arith, ap Some (same-text-equal n a q))
    go false q e ih = let r = ih e in (r.0, suc r.1, r.2, (let f = r.3 in omega arith), r.4)

entry-names : (t : TypeEntry) (a : Text) (v : Value) → (if is_empty t.names then unnamed_item t a else named_item t.name 1 t.names a) ≡ Some v → EntryNames t a v
entry-names t a v e = go (is_empty t.names) refl e
  where
    go : (b : Bool) → is_empty t.names ≡ b → (if b then unnamed_item t a else named_item t.name 1 t.names a) ≡ Some v → EntryNames t a v
    go true q e = unnamed-named t a v q e
    go false q e =
        let r = named-named t.name 0 t.names a v e in
        let i : r.0 ≡ r.1 = let f = r.3 in omega arith in (
          suc r.0,
          r.2,
          ap (λ b. if b then unnamed_name t.name (suc r.0) else name_at t.names (suc r.0)) q
              ∙ ap (λ j. or_default (item_number t.names j) []) i ∙ ap (λ o. or_default o []) r.4,
        )

-- the first entry where the test holds
abbrev chosen : TypeEntry → Option TypeEntry → Bool → Option TypeEntry
chosen t o true = Some t
chosen t o false = o

-- the name of the k-th value of an entry that is there
abbrev name_in : ℕ → Option TypeEntry → Text
name_in k None = []
name_in k (Some e) = entry_name e k

-- Among several types.
pub item-names : (ts : List TypeEntry) (a : Text) (v : Value) → all_distinct (map (λ t. t.name) ts) ≡ true → item_of_name ts a ≡ Some v →
    (t : Text) × (k : ℕ) × (v ≡ item t k) × (item_name ts t k ≡ a) × (is_among (map (λ t. t.name) ts) t ≡ true)
item-names [] a v d e = cc
item-names (t ∷ ts) a v d e =
    go (if is_empty t.names then unnamed_item t a else named_item t.name 1 t.names a) refl e
    (item-names ts a v (and-right (not (is_among (map (λ t. t.name) ts) t.name)) (all_distinct (map (λ t. t.name) ts)) d))
  where
    other : (u : Text) → is_among (map (λ t. t.name) ts) u ≡ true → same_text t.name u ≡ false
    other u m = go' (same_text t.name u) refl
      where
        go' : (b : Bool) → same_text t.name u ≡ b → same_text t.name u ≡ false
        go' false q = q
        go' true q =
            let f = not-true (is_among (map (λ t. t.name) ts) t.name) (and-left (not (is_among (map (λ t. t.name) ts) t.name)) (all_distinct (map (λ t. t.name) ts)) d) in
            let g : is_among (map (λ t. t.name) ts) t.name ≡ true = ap (is_among (map (λ t. t.name) ts)) (same-text-equal t.name u q) ∙ m in cc

    go : (o : Option Value) → (if is_empty t.names then unnamed_item t a else named_item t.name 1 t.names a) ≡ o → or_else o (item_of_name ts a) ≡ Some v →
        (item_of_name ts a ≡ Some v → (u : Text) × (k : ℕ) × (v ≡ item u k) × (item_name ts u k ≡ a) × (is_among (map (λ t. t.name) ts) u ≡ true)) →
        (u : Text) × (k : ℕ) × (v ≡ item u k) × (item_name (t ∷ ts) u k ≡ a) × (is_among (t.name ∷ map (λ t. t.name) ts) u ≡ true)
    go (Some w) q e ih =
        let r = entry-names t a v (q ∙ e) in (
          t.name,
          r.0,
          r.1,
          ap (λ b. name_in r.0 (chosen t (type_entry ts t.name) b)) (same-text-itself t.name) ∙ r.2,
          ap (λ b. b || is_among (map (λ t. t.name) ts) t.name) (same-text-itself t.name),
        )
    go None q e ih =
        let r = ih e in (
          r.0,
          r.1,
          r.2,
          ap (λ b. name_in r.1 (chosen t (type_entry ts r.0) b)) (other r.0 r.4) ∙ r.3,
          ap (λ b. b || is_among (map (λ t. t.name) ts) r.0) (other r.0 r.4) ∙ r.4,
        )
