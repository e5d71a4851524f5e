-- What is asked of the pairs of a function that a view stands for: that the values differ, and that each value is taken.
use Rattle.std.proofs.Common.{◌≡◌, refl, sym, ap, ◌∙◌, subst, ℕ, suc, ◌<◌, Bool, true, false, ◌&&◌, ◌||◌, List, [], ◌∷◌, map, length, Some, option_map, le_refl}
use Rattle.std.specs.List.{list_all}
use Rattle.ess_semantics.specs.declared.words.Key.{Key}
use Rattle.ess_semantics.specs.declared.words.Op2.{Op2}
use Rattle.ess_semantics.specs.declared.words.Fun.{Fun}
use Rattle.ess_semantics.specs.Lists.{is_some_and}
use Rattle.ess_semantics.specs.Values.{Text, Value, pair, truth, from_of, to_of, items_of}
use Rattle.ess_semantics.specs.Order.{same, same_text}
use Rattle.ess_semantics.specs.Collections.{holds, no_twice}
use Rattle.ess_semantics.specs.Trees.{Ex, name_ex, comp_ex, no_gens, over, name_pat, Dom, ex2, fun1}
use Rattle.ess_semantics.specs.Domains.{Attribute, numbered, flagged, Domain, members, member_list}
use Rattle.ess_semantics.specs.Membership.{is_pair, member}
use Rattle.ess_repr_laws.proofs.CanonicalConversions.{is_pair_of}
use Rattle.ess_repr_laws.proofs.FunctionPairs.{pair-of}
use Rattle.ess_semantics.proofs.Tests.{and-left, and-right}
use Rattle.ess_semantics.specs.Attributes.{each_holds, function_attributes_hold, function_holds, set_attributes_hold, size_holds, is_surjective}
use Rattle.ess_semantics.specs.FunctionLayers.{function_with, with_arguments}
use Rattle.ess_semantics.specs.Operators.{all_true, any_true}
use Rattle.ess_semantics.specs.Meaning.{Env, meaning}
use Rattle.ess_semantics.proofs.Connectives.{and-means, any-means, all-means, binary-means}
use Rattle.ess_semantics.proofs.Orders.{to_list-of_list}
use Rattle.ess_repr_laws.specs.StructureParts.{and_ex}
use Rattle.ess_repr_laws.specs.StructureMeaning.{Bound, M, BoolIs, EachFlag, ValuesListed}
use Rattle.ess_repr_laws.specs.ViewParts.{component_ex, each_item, components_differ_ex, all_taken_ex}
use Rattle.ess_repr_laws.proofs.CanonicalPlaces.{AllOf, all-of-map}
use Rattle.ess_repr_laws.proofs.StructureKeys.{attributes-apart}
use Rattle.ess_repr_laws.proofs.StructureRows.{looked}
use Rattle.ess_repr_laws.proofs.ViewsOfCells.{Stands, components-differ, items-run, members-run, second-means}

-- What is known of a pair of two members.
abbrev pub Pair : Domain → Domain → Value → Type 0
Pair x y p = (p ≡ pair (from_of p) (to_of p)) × (member x (from_of p) ≡ true) × (member y (to_of p) ≡ true)

-- So where a test says it.
pub pair-is : (x y : Domain) (p : Value) → is_pair_of x y p ≡ true → Pair x y p
pair-is x y p h =
    let a = and-left (is_pair p && member x (from_of p)) (member y (to_of p)) h in (
      pair-of p (and-left (is_pair p) (member x (from_of p)) a),
      and-right (is_pair p) (member x (from_of p)) a,
      and-right
          (is_pair p && member x (from_of p)) (member y (to_of p)) h,
    )

-- A pair whose second part is a member of y.
abbrev pub PairTo : Domain → Value → Type 0
PairTo y p = (p ≡ pair (from_of p) (to_of p)) × (member y (to_of p) ≡ true)

-- The pairs of arguments and members.
pub arguments-pairs : (y : Domain) (xs vs : List Value) → AllOf vs (λ v. member y v ≡ true) → AllOf (with_arguments xs vs) (PairTo y)
arguments-pairs y [] vs h = tt
arguments-pairs y (x ∷ xs) [] h = tt
arguments-pairs y (x ∷ xs) (v ∷ vs) h = ((refl, h.0), arguments-pairs y xs vs h.1)

-- So of the function of these.
pub function-pairs : (y : Domain) (xs vs : List Value) → AllOf vs (λ v. member y v ≡ true) →
    AllOf (items_of (function_with xs vs)) (PairTo y)
function-pairs y xs vs h = subst (λ l. AllOf l (PairTo y)) (sym (to_list-of_list (with_arguments xs vs))) (arguments-pairs y xs vs h)

-- Attributes without a number, of which each says the same.
pub flags-alike : (ks : List Attribute) (F G : Key → Bool) → EachFlag (λ k. F k ≡ G k) ks →
    each_holds ks (λ k n. true) F ≡ each_holds ks (λ k n. true) G
flags-alike [] F G h = refl
flags-alike (numbered k n ∷ ks) F G h = flags-alike ks F G h
flags-alike (flagged k ∷ ks) F G h = ap (λ b. b && each_holds ks (λ k n. true) F) h.0 ∙ ap (λ b. G k && b) (flags-alike ks F G h.1)

-- The attributes of a function are its sizes, and what each attribute without a number says.
pub function-attributes-apart : (ks : List Attribute) (x y : Domain) (ps : List Value) (F : Key → Bool) →
    EachFlag (λ k. function_holds k (members x) (members y) ps ≡ F k) ks →
    function_attributes_hold ks x y ps ≡ set_attributes_hold ks (length ps) && each_holds ks (λ k n. true) F
function-attributes-apart ks x y ps F h =
    attributes-apart ks (λ k n. size_holds k n (length ps)) (λ k. function_holds k (members x) (members y) ps)
    ∙ ap (λ b. set_attributes_hold ks (length ps) && b) (flags-alike ks (λ k. function_holds k (members x) (members y) ps) F h)

module _ (env0 : Env) (q : ℕ → Text) (q-apart : (m l : ℕ) → l < m → same_text (q m) (q l) ≡ false) where
  abbrev N : Bound env0 q q-apart → Env
  N = M env0 q q-apart

  module _ (c : Dom) (y : Domain) (by' : BoolIs c y) (l : ℕ) (bs : Bound env0 q q-apart) (e : Ex) (v : Value)
      (st : Stands env0 q q-apart l e v bs) (pairs : AllOf (items_of v) (PairTo y)) where
    abbrev ps : List Value
    ps = items_of v

    -- Whether the values differ.
    pub seconds-means : meaning (components_differ_ex q l c 2 e) (N bs) ≡ Some (truth (no_twice to_of ps))
    seconds-means =
        components-differ env0 q q-apart l c 2 e bs v to_of (st [] tt)
        (all-of-map ps (PairTo y) (λ p. meaning (component_ex c 2 (name_ex (q l))) (N ((l, p) ∷ bs)) ≡ Some (to_of p))
        (λ p h. ap (λ z. meaning (component_ex c 2 (name_ex (q l))) (N ((l, z) ∷ bs))) h.0
        ∙ second-means env0 q q-apart l c y (from_of p) (to_of p) bs by' h.1) pairs)

    -- Whether u is the second part of a pair.
    taken-means : (u : Value) →
        meaning (fun1 true Fun.Or (comp_ex (ex2 true Op2.Eq (component_ex c 2 (name_ex (q (suc l)))) (name_ex (q l)))
        (each_item q (suc l) e no_gens))) (N ((l, u) ∷ bs)) ≡ Some (truth (holds (map to_of ps) u))
    taken-means u =
        any-means (N ((l, u) ∷ bs)) test (each_item q (suc l) e no_gens) (map bit ps)
        (items-run env0 q q-apart (suc l) e no_gens ((l, u) ∷ bs) (λ here. option_map (λ z. z ∷ []) (meaning test here)) v bit
        (st ((l, u) ∷ []) (le_refl l, tt))
        (all-of-map ps (PairTo y) (λ p. option_map (λ z. z ∷ []) (meaning test (N ((suc l, p) ∷ (l, u) ∷ bs))) ≡ Some (bit p ∷ []))
        (λ p h. ap (option_map (λ z. z ∷ [])) (one p h)) pairs))
        ∙ ap (λ b. Some (truth b)) (some-bit ps)
      where
        test : Ex
        test = ex2 true Op2.Eq (component_ex c 2 (name_ex (q (suc l)))) (name_ex (q l))

        bit : Value → Value
        bit p = truth (same (to_of p) u)

        one : (p : Value) → PairTo y p → meaning test (N ((suc l, p) ∷ (l, u) ∷ bs)) ≡ Some (bit p)
        one p h =
            binary-means (N ((suc l, p) ∷ (l, u) ∷ bs)) true Op2.Eq (component_ex c 2 (name_ex (q (suc l)))) (name_ex (q l)) (to_of p) u
            (ap (λ z. meaning (component_ex c 2 (name_ex (q (suc l)))) (N ((suc l, z) ∷ (l, u) ∷ bs))) h.0
            ∙ second-means env0 q q-apart (suc l) c y (from_of p) (to_of p) ((l, u) ∷ bs) by' h.1)
            (looked env0 q q-apart l u bs ((suc l, p) ∷ []) (le_refl (suc l), tt))

        some-bit : (zs : List Value) → any_true (map bit zs) ≡ holds (map to_of zs) u
        some-bit [] = refl
        some-bit (z ∷ zs) = ap (λ b. same (to_of z) u || b) (some-bit zs)

    -- Whether each value is taken.
    pub all-taken-means : ValuesListed env0 q q-apart c y → meaning (all_taken_ex q l c e) (N bs) ≡ Some
        (truth (is_surjective (members y) ps))
    all-taken-means h =
        all-means (N bs) part (over (name_pat (q l)) c no_gens) (map bit (member_list y))
        (members-run env0 q q-apart l c no_gens bs (λ here. option_map (λ z. z ∷ []) (meaning part here)) (member_list y) bit (h.1.0 bs)
        (each (member_list y)))
        ∙ ap (λ b. Some (truth b)) (all-bit (member_list y)) ∙ ap (λ o. Some
        (truth (is_some_and o (λ vs. list_all (λ u. holds (map to_of ps) u) vs)))) (sym h.0)
      where
        part : Ex
        part = fun1 true Fun.Or (comp_ex (ex2 true Op2.Eq (component_ex c 2 (name_ex (q (suc l)))) (name_ex (q l)))
            (each_item q (suc l) e no_gens))

        bit : Value → Value
        bit u = truth (holds (map to_of ps) u)

        each : (us : List Value) → AllOf us (λ u. option_map (λ z. z ∷ []) (meaning part (N ((l, u) ∷ bs))) ≡ Some (bit u ∷ []))
        each [] = tt
        each (u ∷ us) = (ap (option_map (λ z. z ∷ [])) (taken-means u), each us)

        all-bit : (us : List Value) → all_true (map bit us) ≡ list_all (λ u. holds (map to_of ps) u) us
        all-bit [] = refl
        all-bit (u ∷ us) = ap (λ b. holds (map to_of ps) u && b) (all-bit us)

    -- Whether both hold.
    pub one-to-one-means : ValuesListed env0 q q-apart c y → meaning (and_ex (components_differ_ex q l c 2 e) (all_taken_ex q l c e))
        (N bs) ≡ Some (truth (no_twice to_of ps && is_surjective (members y) ps))
    one-to-one-means h =
        and-means (N bs) (components_differ_ex q l c 2 e) (all_taken_ex q l c e) (no_twice to_of ps) (is_surjective (members y) ps)
        seconds-means (all-taken-means h)
