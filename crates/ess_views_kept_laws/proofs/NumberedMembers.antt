-- A view of a multiset that has a number for each member of the inner domain: what its numbers say.
use Rattle.std.proofs.Common.{◌≡◌, refl, sym, ap, ◌∙◌, subst, ℕ, zero, suc, ◌+◌, Bool, true, false, ◌||◌, not, if◌then◌else◌, List, [], ◌∷◌, ◌++◌, length, replicate, ℤ, pos, negsuc, ◌+ℤ◌, ◌<ℤ◌, Option, Some, None, option_map, arith, length-append}
use Rattle.std.proofs.lemmas.Int.{ints}
use Rattle.std.specs.Prelude.{IsTrue, is_some}
use Rattle.std.specs.Ordering.{is_lt}
use Rattle.std.specs.Cmp.{int_cmp_is}
use Rattle.std.specs.declared.cmp.Ordering.TheVariants.{Less}
use Rattle.ess_semantics.specs.declared.words.ReprKind.{ReprKind}
use Rattle.ess_semantics.specs.Lists.{and_then, each_of, list_or_none}
use Rattle.ess_semantics.specs.Values.{a_mset, Text, Value, number, truth, node, of_list}
use Rattle.ess_semantics.specs.Order.{same, same_text, below}
use Rattle.ess_semantics.specs.Collections.{holds, count}
use Rattle.ess_semantics.specs.Names.{look}
use Rattle.ess_semantics.specs.Numbers.{not_below_0}
use Rattle.ess_semantics.specs.Trees.{Mark, Repr, repr, no_reprs, name_ex, Ex, Exs, seen_ex, Dom, mset_dom}
use Rattle.ess_semantics.specs.Domains.{Attribute, Domain, msets, members}
use Rattle.ess_semantics.specs.Membership.{member}
use Rattle.ess_semantics.specs.Operators.{sum_of, any_true}
use Rattle.ess_semantics.specs.Tables.{Table, code, cell_at}
use Rattle.ess_semantics.specs.Cells.{cells_at}
use Rattle.ess_semantics.specs.Layers.{each_repeated}
use Rattle.ess_semantics.specs.Representations.{value_of_tables}
use Rattle.ess_semantics.specs.Declarations.{axes_of}
use Rattle.ess_semantics.specs.Tidy.{over_axes, is_orderly, tidy}
use Rattle.ess_semantics.specs.Meaning.{Env, meaning, meanings, attributes_of, domain_of, members_in, indices, collect, cell_in, cell_value}
use Rattle.ess_semantics.specs.Meets.{Meets}
use Rattle.ess_semantics.specs.Substitution.{NamesAreExs}
use Rattle.ess_semantics.proofs.Tests.{and-left, and-right, some-and}
use Rattle.ess_semantics.proofs.Overlaps.{holds-append}
use Rattle.ess_semantics.proofs.Repeats.{count-append, count-replicate}
use Rattle.ess_rules_laws.specs.SetListings.{put_last}
use Rattle.ess_rules_laws.proofs.RuleAnswers.{behind}
use Rattle.ess_rules_laws.proofs.OccurrenceListing.{put-meanings, last-index}
use Rattle.ess_rules_laws.proofs.OccurrenceTests.{Parts, parts, parts-mean}
use Rattle.ess_views_laws.specs.MultisetViews.{number_at}

no : {A : Type 0} → false ≡ true → A
no h = cc

-- ---- lists beside numbers

-- What f makes of each value with its number.
abbrev pub spread : (ℕ → Value → List Value) → List Value → List ℕ → List Value
spread f (u ∷ us) (n ∷ ns) = f n u ++ spread f us ns
spread f us ns = []

-- As many numbers as values.
abbrev pub AsMany : List Value → List ℕ → Type 0
AsMany [] [] = Unit {0}
AsMany (u ∷ us) (n ∷ ns) = AsMany us ns
AsMany us ns = ⊥

-- What is collected where each value has a number.
pub collect-spread : (N : Value → Option ℕ) (G : Value → Option (List Value)) (f : ℕ → Value → List Value) →
    ((v : Value) (n : ℕ) → N v ≡ Some n → G v ≡ Some (f n v)) → (us : List Value) (ns : List ℕ) → each_of us N ≡ Some ns →
    (collect us G ≡ Some (spread f us ns)) × AsMany us ns
collect-spread N G f h [] ns q = (refl, subst (AsMany []) (let e : [] ≡ ns = cc in e) tt)
collect-spread N G f h (u ∷ us) ns q = go (N u) refl (each_of us N) refl q (λ ms e. collect-spread N G f h us ms e)
  where
    go : (o : Option ℕ) → N u ≡ o → (p : Option (List ℕ)) → each_of us N ≡ p → and_then o (λ y. option_map (λ ys. y ∷ ys) p) ≡ Some ns →
        ((ms : List ℕ) → each_of us N ≡ Some ms → (collect us G ≡ Some (spread f us ms)) × AsMany us ms) →
        (and_then (G u) (λ xs. option_map (λ ys. xs ++ ys) (collect us G)) ≡ Some (spread f (u ∷ us) ns)) × AsMany (u ∷ us) ns
    go None a p b q r = cc
    go (Some n) a None b q r = cc
    go (Some n) a (Some ms) b q r = let e : n ∷ ms ≡ ns = cc in let t = r ms b in
        subst (λ l. (and_then (G u) (λ xs. option_map (λ ys. xs ++ ys) (collect us G)) ≡ Some (spread f (u ∷ us) l)) × AsMany (u ∷ us) l) e
        (ap (λ o. and_then o (λ xs. option_map (λ ys. xs ++ ys) (collect us G))) (h u n a) ∙ ap (option_map (λ ys. f n u ++ ys)) t.0, t.1)

-- ---- sums

-- The number itself.
abbrev pub as_number : ℕ → Value → List Value
as_number n v = number (pos n) ∷ []

-- The number where the value is w.
abbrev pub number_if : Value → ℕ → Value → List Value
number_if w n v = if same v w then number (pos n) ∷ [] else []

-- Whether the number is above 0, where the value is w.
abbrev pub there_if : Value → ℕ → Value → List Value
there_if w n v = if same v w then truth (below (number (pos 0)) (number (pos n))) ∷ [] else []

replicate-long : (n : ℕ) (v : Value) → length (replicate n v) ≡ n
replicate-long zero v = refl
replicate-long (suc n) v = ap suc (replicate-long n v)

-- The sum of the numbers is the number of members.
pub sum-size : (us : List Value) (ns : List ℕ) → AsMany us ns → sum_of (spread as_number us ns) ≡ pos (length (each_repeated ns us))
sum-size [] [] a = refl
sum-size (u ∷ us) (n ∷ ns) a = let s = sum-size us ns a in
    let l = length-append (replicate n u) (each_repeated ns us) in let r = replicate-long n u in
    ap (λ z. pos n +ℤ z) s ∙ (let e : pos n +ℤ pos (length (each_repeated ns us)) ≡ pos (n + length (each_repeated ns us)) =
    omega (arith, ints) in e)
    ∙ ap pos (let e : n + length (each_repeated ns us) ≡ length (replicate n u ++ each_repeated ns us) = omega arith in e)
sum-size [] (n ∷ ns) a = absurd a
sum-size (u ∷ us) [] a = absurd a

-- That at the members that are w is how often w is there.
pub sum-count : (w : Value) (us : List Value) (ns : List ℕ) → AsMany us ns → sum_of (spread (number_if w) us ns) ≡
    pos (count (each_repeated ns us) w)
sum-count w [] [] a = refl
sum-count w (u ∷ us) (n ∷ ns) a = go (same u w) (count-replicate n u w) (sum-count w us ns a)
  where
    R : List Value
    R = each_repeated ns us

    go : (b : Bool) → count (replicate n u) w ≡ (if b then n else 0) → sum_of (spread (number_if w) us ns) ≡ pos (count R w) →
        sum_of ((if b then number (pos n) ∷ [] else []) ++ spread (number_if w) us ns) ≡ pos (count (replicate n u ++ R) w)
    go true c s = let l = count-append (replicate n u) R w in
        ap (λ z. pos n +ℤ z) s ∙ (let e : pos n +ℤ pos (count R w) ≡ pos (n + count R w) = omega (arith, ints) in e)
        ∙ ap pos (let e : n + count R w ≡ count (replicate n u ++ R) w = omega arith in e)
    go false c s = let l = count-append (replicate n u) R w in
        s ∙ ap pos (let e : count R w ≡ count (replicate n u ++ R) w = omega arith in e)
sum-count w [] (n ∷ ns) a = absurd a
sum-count w (u ∷ us) [] a = absurd a

above-0 : (n : ℕ) → below (number (pos 0)) (number (pos (suc n))) ≡ true
above-0 n = ap is_lt (sym (int_cmp_is (pos 0) (pos (suc n)) Less (let e : pos 0 <ℤ pos (suc n) = omega (arith, ints) in e)))

-- A value is there so often, where the number is above 0.
pub holds-replicate : (n : ℕ) (u w : Value) (b : Bool) → same u w ≡ b → holds (replicate n u) w ≡ (if b then below (number (pos 0))
    (number (pos n)) else false)
holds-replicate zero u w true s = refl
holds-replicate zero u w false s = refl
holds-replicate (suc n) u w true s = ap (λ b. b || holds (replicate n u) w) s ∙ sym (above-0 n)
holds-replicate (suc n) u w false s = ap (λ b. b || holds (replicate n u) w) s ∙ holds-replicate n u w false s

-- Some number at a member that is w is above 0 where w is there.
pub any-holds : (w : Value) (us : List Value) (ns : List ℕ) → AsMany us ns → any_true (spread (there_if w) us ns) ≡
    holds (each_repeated ns us) w
any-holds w [] [] a = refl
any-holds w (u ∷ us) (n ∷ ns) a = go (same u w) (holds-replicate n u w (same u w) refl) (any-holds w us ns a)
  where
    R : List Value
    R = each_repeated ns us

    go : (b : Bool) → holds (replicate n u) w ≡ (if b then below (number (pos 0)) (number (pos n)) else false) →
        any_true (spread (there_if w) us ns) ≡ holds R w →
        any_true ((if b then truth (below (number (pos 0)) (number (pos n))) ∷ [] else []) ++ spread (there_if w) us ns) ≡
        holds (replicate n u ++ R) w
    go true c s = ap (λ z. below (number (pos 0)) (number (pos n)) || z) s ∙ ap (λ z. z || holds R w) (sym c)
        ∙ sym (holds-append (replicate n u) R w)
    go false c s = s ∙ ap (λ z. z || holds R w) (sym c) ∙ sym (holds-append (replicate n u) R w)
any-holds w [] (n ∷ ns) a = absurd a
any-holds w (u ∷ us) [] a = absurd a

-- ---- the view

pub mset-parts : (a : Option (List Attribute)) (p : Option Domain) (d : Domain) → and_then a (λ ks. option_map (msets ks) p) ≡ Some d →
    (ks : List Attribute) × (x : Domain) × (d ≡ msets ks x) × (p ≡ Some x)
mset-parts None p d q = cc
mset-parts (Some ks) None d q = cc
mset-parts (Some ks) (Some x) d q = (ks, x, sym (let z : msets ks x ≡ d = cc in z), refl)

module _ (ms : List Mark) (es : Exs) (dd : Dom) (m : Text) (js : Exs) (env : Env) where
  abbrev R : Repr
  R = repr ReprKind.MSetOccurrence no_reprs

  abbrev pub View : Ex
  View = seen_ex R (mset_dom ms es dd) (m ∷ []) js

  -- The members of the inner domain with their numbers.
  pub record Stands : Type 0 where
    pub us : List Value
    pub ns : List ℕ
    pub t : Table
    pub i : List ℤ
    pub members_are : members_in (domain_of dd env) ≡ Some us
    pub table_is : look env.cells m ≡ Some t
    pub index_is : indices (meanings js env) ≡ Some i
    pub numbers : each_of us (λ v. and_then (cell_at t (i ++ (code v ∷ []))) not_below_0) ≡ Some ns
    pub is_value : meaning View env ≡ Some (node a_mset (of_list (each_repeated ns us)))

  pub stands : Meets View env → IsTrue (is_some (members_in (domain_of dd env))) → Stands
  stands h there = let p = parts R (mset_dom ms es dd) m js env h in
      let d = mset-parts (attributes_of ms (meanings es env)) (domain_of dd env) p.d p.domain_is in
      let tidy-is : tidy R (msets d.0 d.1) (p.t ∷ []) p.i ≡ true = ap (λ z. tidy R z (p.t ∷ []) p.i) (sym d.2) ∙ p.is_tidy in
      let v = some-and (value_of_tables R (msets d.0 d.1) (p.t ∷ []) p.i) (member (msets d.0 d.1))
      (and-left _ (is_orderly R (msets d.0 d.1) (cells_at (p.t ∷ []) p.i))
      (and-right (over_axes p.i (axes_of R (msets d.0 d.1)) (p.t ∷ [])) _ tidy-is)) in
      go p d.0 d.1 (parts-mean R (mset_dom ms es dd) m js env refl p ∙ ap (λ z. value_of_tables R z (p.t ∷ []) p.i) d.2) d.3
      (members d.1) refl (ap (λ z. is_some (members_in z)) (sym d.3) ∙ there) v.0 v.1
    where
      at : (p : Parts R (mset_dom ms es dd) m js env) (us : List Value) → members_in (domain_of dd env) ≡ Some us → (w : Value) →
          (o : Option (List ℕ)) → each_of us (λ v. and_then (cell_at p.t (p.i ++ (code v ∷ []))) not_below_0) ≡ o →
          meaning View env ≡ option_map (λ ns. node a_mset (of_list (each_repeated ns us))) o →
          option_map (λ ns. node a_mset (of_list (each_repeated ns us))) o ≡ Some w → Stands
      at p us e w None n q r = cc
      at p us e w (Some ns) n q r = record {
        us = us;
        ns = ns;
        t = p.t;
        i = p.i;
        members_are = e;
        table_is = p.table_is;
        index_is = p.index_is;
        numbers = n;
        is_value = q;
      }

      go : (p : Parts R (mset_dom ms es dd) m js env) (ks : List Attribute) (x : Domain) →
          meaning View env ≡ value_of_tables R (msets ks x) (p.t ∷ []) p.i →
          domain_of dd env ≡ Some x → (o : Option (List Value)) → members x ≡ o → is_some (members x) ≡ true → (w : Value) →
          value_of_tables R (msets ks x) (p.t ∷ []) p.i ≡ Some w → Stands
      go p ks x q dq None e s w r = no (sym (ap is_some e) ∙ s)
      go p ks x q dq (Some us) e s w r =
          let f : value_of_tables R (msets ks x) (p.t ∷ []) p.i ≡
          option_map (λ ns. node a_mset (of_list (each_repeated ns us)))
          (each_of us (λ v. and_then (cell_at p.t (p.i ++ (code v ∷ []))) not_below_0)) =
          ap (λ l. option_map (λ ns. node a_mset (of_list (each_repeated ns l)))
          (each_of l (λ v. and_then (cell_at p.t (p.i ++ (code v ∷ []))) not_below_0))) (ap list_or_none e) in
          at p us (ap members_in dq ∙ e) w (each_of us (λ v. and_then (cell_at p.t (p.i ++ (code v ∷ []))) not_below_0)) refl (q ∙ f)
          (sym f ∙ r)

  -- The number at a member, where x is it.
  pub number-means : (x : Text) → NamesAreExs (λ a. not (same_text x a)) (λ a. true) js → (s : Stands) (v : Value) (n : ℕ) →
      and_then (cell_at s.t (s.i ++ (code v ∷ []))) not_below_0 ≡ Some n →
      meaning (number_at m js x) (behind x v env) ≡ Some (number (pos n))
  number-means x new s v n q =
      ap (λ o. cell_in false o (indices (meanings (put_last js (name_ex x)) (behind x v env)))) s.table_is
      ∙ ap (cell_in false (Some s.t)) (ap indices (put-meanings x v js env new) ∙ last-index (meanings js env) s.i v s.index_is)
      ∙ at (cell_at s.t (s.i ++ (code v ∷ []))) q
    where
      at : (o : Option ℤ) → and_then o not_below_0 ≡ Some n → option_map (cell_value false) o ≡ Some (number (pos n))
      at None q = cc
      at (Some (pos k)) q = ap (λ z. Some (number (pos z))) (let e : k ≡ n = cc in e)
      at (Some (negsuc k)) q = cc
