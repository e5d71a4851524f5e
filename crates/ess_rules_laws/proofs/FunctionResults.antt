-- A function kept by argument: where a generator runs over arguments in use, its items and structures.
use Rattle.std.proofs.Common.{◌≡◌, refl, sym, ap, ◌∙◌, subst, ℕ, ◌≤◌, Bool, true, false, if◌then◌else◌, List, [], ◌∷◌, ◌++◌, map, filter, length, ℤ, Option, Some, None, option_map}
use Rattle.std.specs.List.{list_all}
use Rattle.ess_semantics.specs.Lists.{and_then, each_of}
use Rattle.ess_semantics.specs.Values.{Text, Value, truth, pair}
use Rattle.ess_semantics.specs.Trees.{tuple_literal, Repr, Ex, Exs, Dom}
use Rattle.ess_semantics.specs.Domains.{Domain, members, lists_of}
use Rattle.ess_semantics.specs.Membership.{member}
use Rattle.ess_semantics.specs.Operators.{value_of_node}
use Rattle.ess_semantics.specs.Tables.{Tables, truth_of}
use Rattle.ess_semantics.specs.Cells.{Axes, cells_at}
use Rattle.ess_semantics.specs.Layers.{chosen}
use Rattle.ess_semantics.specs.FunctionLayers.{with_arguments}
use Rattle.ess_semantics.specs.Representations.{width}
use Rattle.ess_semantics.specs.Declarations.{axes_of}
use Rattle.ess_semantics.specs.Tidy.{over_axes}
use Rattle.ess_semantics.specs.Meaning.{Env, meaning, meanings, bind, with_pat, collect, where_true, domain_of, indices, tables_in}
use Rattle.ess_semantics.specs.Contexts.{Each}
use Rattle.ess_semantics.specs.Meets.{Meets, MeetsAll, MeetsDom}
use Rattle.ess_semantics.specs.Substitution.{NamesAreExs, NamesAreDom}
use Rattle.ess_semantics.proofs.Tests.{and-left, and-right}
use Rattle.ess_rules_laws.specs.FunctionMembershipRules.{pair_ex}
use Rattle.ess_rules_laws.specs.FunctionViews.{Run, result_at}
use Rattle.ess_rules_laws.proofs.Simulation.{any}
use Rattle.ess_rules_laws.proofs.Agreement.{AgreeOn}
use Rattle.ess_rules_laws.proofs.Listing.{append-none}
use Rattle.ess_rules_laws.proofs.SlotSets.{In, orderly_in}
use Rattle.ess_rules_laws.proofs.Results.{is_flag, place-value, place-tidy, result-is, result-met}

no : {A : Type 0} → false ≡ true → A
no h = cc

-- ---- the arguments whose flag is true

-- The chosen items are those whose cell is true.
pub chosen-picked : (f : Value → Option ℤ) (xs ys : List Value) → chosen xs f ≡ Some ys → ys ≡ filter (λ x. is_flag (f x)) xs
chosen-picked f [] ys q = sym (let e : [] ≡ ys = cc in e)
chosen-picked f (x ∷ xs) ys q = go (f x) q (λ zs r. chosen-picked f xs zs r)
  where
    last : (b : Bool) (c : Option (List Value)) → chosen xs f ≡ c → option_map (λ ys. if b then x ∷ ys else ys) c ≡ Some ys →
        ((zs : List Value) → chosen xs f ≡ Some zs → zs ≡ filter (λ x. is_flag (f x)) xs) →
        ys ≡ (if b then x ∷ filter (λ x. is_flag (f x)) xs else filter (λ x. is_flag (f x)) xs)
    last b None p q r = cc
    last true (Some zs) p q r = sym (let e : x ∷ zs ≡ ys = cc in e) ∙ ap (λ l. x ∷ l) (r zs p)
    last false (Some zs) p q r = sym (let e : zs ≡ ys = cc in e) ∙ r zs p

    bit : (n : ℤ) (o : Option Bool) → truth_of n ≡ o →
        and_then o (λ b. option_map (λ ys. if b then x ∷ ys else ys) (chosen xs f)) ≡ Some ys →
        ((zs : List Value) → chosen xs f ≡ Some zs → zs ≡ filter (λ x. is_flag (f x)) xs) →
        ys ≡ (if is_flag (Some n) then x ∷ filter (λ x. is_flag (f x)) xs else filter (λ x. is_flag (f x)) xs)
    bit n None p q r = cc
    bit n (Some b) p q r = last b (chosen xs f) refl q r
        ∙ ap (λ c. if c then x ∷ filter (λ x. is_flag (f x)) xs else filter (λ x. is_flag (f x)) xs)
        (sym (ap (λ o. elim o [ Some b ↦ b | None ↦ false ]) p))

    go : (o : Option ℤ) → and_then (and_then o truth_of) (λ b. option_map (λ ys. if b then x ∷ ys else ys) (chosen xs f)) ≡ Some ys →
        ((zs : List Value) → chosen xs f ≡ Some zs → zs ≡ filter (λ x. is_flag (f x)) xs) →
        ys ≡ (if is_flag o then x ∷ filter (λ x. is_flag (f x)) xs else filter (λ x. is_flag (f x)) xs)
    go None q r = cc
    go (Some n) q r = bit n (truth_of n) refl q r

module _ (t : Value → Bool) where
  -- What is collected behind a test is collected over those that pass it.
  pub collect-passing : (G H : Value → Option (List Value)) (xs : List Value) →
      Each xs (λ x. G x ≡ where_true (Some (truth (t x))) (λ u. H x)) → collect xs G ≡ collect (filter t xs) H
  collect-passing G H [] h = refl
  collect-passing G H (x ∷ xs) h = go (t x) h.0 (collect-passing G H xs h.1)
    where
      go : (b : Bool) → G x ≡ where_true (Some (truth b)) (λ u. H x) → collect xs G ≡ collect (filter t xs) H →
          and_then (G x) (λ xs'. option_map (λ ys. xs' ++ ys) (collect xs G)) ≡ collect (if b then x ∷ filter t xs else filter t xs) H
      go true q r = ap (λ o. and_then o (λ xs'. option_map (λ ys. xs' ++ ys) (collect xs G))) q
          ∙ ap (λ o. and_then (H x) (λ xs'. option_map (λ ys. xs' ++ ys) o)) r
      go false q r = ap (λ o. and_then o (λ xs'. option_map (λ ys. xs' ++ ys) (collect xs G))) q ∙ append-none (collect xs G) ∙ r

  -- What holds of those that pass holds of each behind the test.
  pub each-passing : (K P Q : Value → Type 0) → ((x : Value) → K x → (t x ≡ true → P x) → Q x) → (xs : List Value) → Each xs K →
      Each (filter t xs) P → Each xs Q
  each-passing K P Q f [] k a = tt
  each-passing K P Q f (x ∷ xs) k a = go (t x) refl a (λ z. each-passing K P Q f xs k.1 z)
    where
      go : (b : Bool) → t x ≡ b → Each (if b then x ∷ filter t xs else filter t xs) P → (Each (filter t xs) P → Each xs Q) →
          Q x × Each xs Q
      go true q a r = (f x k.0 (λ z. a.0), r a.1)
      go false q a r = (f x k.0 (λ z. no (sym q ∙ z)), r a)

  -- What holds of each item holds of each that passes.
  pub each-filtered : (K : Value → Type 0) (xs : List Value) → Each xs K → Each (filter t xs) K
  each-filtered K [] k = tt
  each-filtered K (x ∷ xs) k = go (t x) (each-filtered K xs k.1)
    where
      go : (b : Bool) → Each (filter t xs) K → Each (if b then x ∷ filter t xs else filter t xs) K
      go true r = (k.0, r)
      go false r = r

-- ---- results at arguments

module _ (n : Text → Bool) (u : Run) (index : Value → List ℤ) (many : ℕ) (env : Env) where
  abbrev pub Here : Value → Env
  Here v = with_pat u.pattern v env

  -- At a value of its pattern a generator has the argument and its indices.
  pub record Keyed (v : Value) : Type 0 where
    pub agree : AgreeOn n env.vals (bind u.pattern v env.vals)
    pub codes : indices (meanings u.keys (Here v)) ≡ Some (index v)
    pub argument : meaning u.argument (Here v) ≡ Some v
    pub long : length (index v) ≡ many
    pub keys_met : MeetsAll false u.keys (Here v)
    pub argument_met : Meets u.argument (Here v)

  -- So it is at each member of a domain, whose indices are the places over the axes.
  pub record RunsOver (d : Domain) (axes : Axes) : Type 0 where
    pub us : List Value
    pub are_members : members d ≡ Some us
    pub places : lists_of axes ≡ map index us
    pub keyed : Each us Keyed

module _ (n : Text → Bool) (u : Run) (index : Value → List ℤ) (many : ℕ) (env : Env) (ce : Dom) (js : Exs) (names : List Text) (r : Repr)
    (c : Domain) (ts : Tables) (i : List ℤ) where
  abbrev At : Value → Env
  At v = with_pat u.pattern v env

  -- The view at the argument.
  abbrev pub Result : Ex
  Result = result_at r ce names js u.keys

  -- A pair of the argument and the view there.
  abbrev pub Item : Ex
  Item = pair_ex u.argument Result

  -- The view at an argument has this value there, and its structure is met.
  pub record Fact (v w : Value) : Type 0 where
    pub keyed : Keyed n u index many env v
    pub result : meaning Result (At v) ≡ Some w
    pub met : Meets Result (At v)

  -- So it is at each argument.
  abbrev pub Facts : List Value → List Value → Type 0
  Facts [] [] = Unit {0}
  Facts (v ∷ vs) (w ∷ ws) = Fact v w × Facts vs ws
  Facts vs ws = ⊥

  module _ (new-c : NamesAreDom n any ce) (new-js : NamesAreExs n any js) (dom-is : domain_of ce env ≡ Some c)
      (tables-are : tables_in env.cells names ≡ Some ts) (index-is : indices (meanings js env) ≡ Some i) (short : length ts ≤ width r)
      (over : (j : List ℤ) → length j ≡ many → over_axes (i ++ j) (axes_of r c) ts ≡ true) (mc : MeetsDom ce env)
      (mj : MeetsAll false js env) where
    abbrev V : List ℤ → Option Value
    V = In r c (cells_at ts i)

    fact : (v w : Value) → Keyed n u index many env v → V (index v) ≡ Some w → member c w ≡ true →
        orderly_in r c (cells_at ts i) (index v) ≡ true → Fact v w
    fact v w k q m o = record {
      keyed = k;
      result = result-is n ce js names r env c ts i new-c new-js dom-is tables-are index-is (bind u.pattern v env.vals) k.agree u.keys
          (index v) k.codes w (sym (place-value r c ts i short (index v)) ∙ q) m;
      met = result-met n ce js names r env c ts i new-c new-js dom-is tables-are index-is (bind u.pattern v env.vals) k.agree u.keys
          (index v) k.codes (place-tidy r c ts i short (index v) w (over (index v) k.long) q m o) mc mj k.keys_met;
    }

    pub facts : (ys vs : List Value) → Each ys (Keyed n u index many env) → each_of (map index ys) V ≡ Some vs →
        list_all (member c) vs ≡ true →
        list_all (orderly_in r c (cells_at ts i)) (map index ys) ≡ true → Facts ys vs
    facts [] vs k q m o = subst (λ l. Facts [] l) (let e : [] ≡ vs = cc in e) tt
    facts (y ∷ ys) vs k q m o = go (V (index y)) (each_of (map index ys) V) refl refl q (λ us j m. facts ys us k.1 j m (and-right _ _ o))
      where
        go : (a : Option Value) (p : Option (List Value)) → V (index y) ≡ a → each_of (map index ys) V ≡ p →
            and_then a (λ w. option_map (λ us. w ∷ us) p) ≡ Some vs →
            ((us : List Value) → each_of (map index ys) V ≡ Some us → list_all (member c) us ≡ true → Facts ys us) → Facts (y ∷ ys) vs
        go None p h j q f = cc
        go (Some w) None h j q f = cc
        go (Some w) (Some us) h j q f = let e : w ∷ us ≡ vs = cc in
            let a : list_all (member c) (w ∷ us) ≡ true = ap (list_all (member c)) e ∙ m in
            subst (λ l. Facts (y ∷ ys) l) e (fact y w k.0 h (and-left _ _ a) (and-left _ _ o), f us j (and-right _ _ a))

  -- ---- pairs

  item-means : (v w : Value) → Fact v w → meaning Item (At v) ≡ Some (pair v w)
  item-means v w f = ap (λ o. value_of_node tuple_literal (o ∷ meaning Result (At v) ∷ [])) f.keyed.argument
      ∙ ap (λ o. value_of_node tuple_literal (Some v ∷ o ∷ [])) f.result

  -- The pairs are listed.
  pub pairs-listed : (ys vs : List Value) → Facts ys vs → collect ys (λ v. option_map (λ w. w ∷ []) (meaning Item (At v))) ≡
      Some (with_arguments ys vs)
  pairs-listed [] [] f = refl
  pairs-listed (y ∷ ys) (v ∷ vs) f =
      ap (λ o. and_then (option_map (λ w. w ∷ []) o) (λ xs. option_map (λ ys. xs ++ ys)
      (collect ys (λ v. option_map (λ w. w ∷ []) (meaning Item (At v)))))) (item-means y v f.0)
      ∙ ap (option_map (λ ys. pair y v ∷ ys)) (pairs-listed ys vs f.1)
  pairs-listed [] (v ∷ vs) f = absurd f
  pairs-listed (y ∷ ys) [] f = absurd f

  -- And their structures are met.
  pub pairs-met : (ys vs : List Value) → Facts ys vs → Each ys (λ v. Meets Item (At v))
  pairs-met [] [] f = tt
  pairs-met (y ∷ ys) (v ∷ vs) f = ((f.0.keyed.argument_met, (f.0.met, tt)), pairs-met ys vs f.1)
  pairs-met [] (v ∷ vs) f = absurd f
  pairs-met (y ∷ ys) [] f = absurd f

  -- So are those of the results.
  pub results-met : (ys vs : List Value) → Facts ys vs → Each ys (λ v. Meets Result (At v))
  results-met [] [] f = tt
  results-met (y ∷ ys) (v ∷ vs) f = (f.0.met, results-met ys vs f.1)
  results-met [] (v ∷ vs) f = absurd f
  results-met (y ∷ ys) [] f = absurd f
