-- A view of a multiset that has a number for each member of the inner domain offers each member as often as its number says.
use Rattle.std.proofs.Common.{◌≡◌, refl, sym, ap, ◌∙◌, ℕ, zero, suc, ◌+◌, ◌≤◌, ◌<◌, Bool, true, false, not, if◌then◌else◌, List, [], ◌∷◌, ◌++◌, map, replicate, ℤ, pos, ◌<ℤ◌, Option, Some, None, option_map, nat_le, arith, eq-or-lt_of_le, ◌⊎◌, inl, inr}
use Rattle.std.proofs.lemmas.Bool.{leb-true, le-leb}
use Rattle.std.proofs.lemmas.Int.{ints}
use Rattle.std.specs.Prelude.{IsTrue, is_some}
use Rattle.std.specs.List.{list_all}
use Rattle.std.specs.Ordering.{is_lt}
use Rattle.std.specs.Cmp.{int_cmp_is}
use Rattle.std.specs.declared.cmp.Ordering.TheVariants.{Less, Equal, Greater}
use Rattle.ess_semantics.specs.declared.words.Op2.{Op2}
use Rattle.ess_semantics.specs.declared.words.ReprKind.{ReprKind}
use Rattle.ess_semantics.specs.Lists.{and_then, each_of}
use Rattle.ess_semantics.specs.Values.{a_mset, Text, Value, number, truth, node, of_list, items_of}
use Rattle.ess_semantics.specs.Order.{same_text, below}
use Rattle.ess_semantics.specs.Collections.{count}
use Rattle.ess_semantics.specs.Numbers.{not_below_0, run_from}
use Rattle.ess_semantics.specs.Tables.{code, cell_at}
use Rattle.ess_semantics.specs.Trees.{Mark, repr, no_reprs, name_pat, Ex, Exs, name_ex, seen_ex, no_exs, more_exs, ex2, no_gens, over, cond, Dom, mset_dom}
use Rattle.ess_semantics.specs.Layers.{each_repeated}
use Rattle.ess_semantics.specs.Meaning.{Env, meaning, domain_of, members_in, collect, where_true}
use Rattle.ess_semantics.specs.Contexts.{EachOf}
use Rattle.ess_semantics.specs.Meets.{Meets}
use Rattle.ess_semantics.specs.Substitution.{NamesAreExs}
use Rattle.ess_semantics.proofs.Tests.{and-left, and-right, and-both}
use Rattle.ess_semantics.proofs.Orders.{to_list-of_list, same-itself}
use Rattle.ess_semantics.proofs.Repeats.{count-append, count-replicate}
use Rattle.ess_rules_laws.specs.Rules.{Unused}
use Rattle.ess_rules_laws.specs.Listings.{Alternative, items_listed}
use Rattle.ess_rules_laws.specs.SetListings.{put_last}
use Rattle.ess_rules_laws.specs.ListedSources.{OffersInOrder}
use Rattle.ess_rules_laws.specs.SlotListings.{slots_dom}
use Rattle.ess_rules_laws.proofs.Connectives.{binary-means}
use Rattle.ess_rules_laws.proofs.ExplicitListing.{last-met}
use Rattle.ess_rules_laws.proofs.RuleAnswers.{behind, each-any, meaning-behind, meets-behind, name-behind}
use Rattle.ess_rules_laws.proofs.SlotNumbers.{slots-members}
use Rattle.ess_views_laws.specs.MultisetViews.{number_at}
use Rattle.ess_views_kept_laws.specs.MultisetsListed.{OftenEnough, NumberedMembersAreListed}
use Rattle.ess_views_kept_laws.proofs.NumberedMembers.{spread, AsMany, collect-spread, View, Stands, stands, number-means}

no : {A : Type 0} → false ≡ true → A
no h = cc

-- ---- as often as a number says

-- Whether a number is at most q.
abbrev pub up_to_number : ℕ → ℤ → Bool
up_to_number q k = not (below (number (pos q)) (number k))

-- Not above it.
pub above : (q a : ℕ) → q < a → up_to_number q (pos a) ≡ false
above q a h = ap (λ o. not (is_lt o)) (sym (int_cmp_is (pos q) (pos a) Less (let e : pos q <ℤ pos a = omega (arith, ints) in e)))

at-most : (q a : ℕ) → a ≤ q → up_to_number q (pos a) ≡ true
at-most q a h = go (eq-or-lt_of_le h)
  where
    go : (a ≡ q) ⊎ (a < q) → up_to_number q (pos a) ≡ true
    go (inl e) = ap (λ o. not (is_lt o)) (sym (int_cmp_is (pos q) (pos a) Equal (ap pos (sym e))))
    go (inr l) = ap (λ o. not (is_lt o)) (sym (int_cmp_is (pos q) (pos a) Greater (let e : pos a <ℤ pos q = omega (arith, ints) in e)))

module _ (q : ℕ) (v : Value) (T : Value → Option (List Value))
    (says : (k : ℤ) → T (number k) ≡ where_true (Some (truth (up_to_number q k))) (λ u. Some (v ∷ []))) where
  none-left : (a n : ℕ) → q < a → collect (map number (run_from a n)) T ≡ Some []
  none-left a zero h = refl
  none-left a (suc n) h = ap (λ o. and_then o (λ xs. option_map (λ ys. xs ++ ys) (collect (map number (run_from (suc a) n)) T)))
      (says (pos a) ∙ ap (λ b. where_true (Some (truth b)) (λ u. Some (v ∷ []))) (above q a h))
      ∙ ap (option_map (λ ys. ys)) (none-left (suc a) n (omega arith))

  -- The numbers of a run up to q are b.
  pub run-repeats : (a n b : ℕ) → a + b ≡ q + 1 → b ≤ n → collect (map number (run_from a n)) T ≡ Some (replicate b v)
  run-repeats a zero zero h l = refl
  run-repeats a zero (suc b) h l = absurd (omega arith)
  run-repeats a (suc n) zero h l = none-left a (suc n) (omega arith)
  run-repeats a (suc n) (suc b) h l =
      ap (λ o. and_then o (λ xs. option_map (λ ys. xs ++ ys) (collect (map number (run_from (suc a) n)) T)))
      (says (pos a) ∙ ap (λ c. where_true (Some (truth c)) (λ u. Some (v ∷ []))) (at-most q a (omega arith)))
      ∙ ap (option_map (λ ys. v ∷ ys)) (run-repeats (suc a) n b (omega arith) (omega arith))

-- ---- numbers that aren't above another one

collect-bounded : (N : Value → Option ℕ) (G : Value → Option (List Value)) (f : ℕ → Value → List Value) (Q : ℕ → Bool) →
    ((v : Value) (n : ℕ) → N v ≡ Some n → Q n ≡ true → G v ≡ Some (f n v)) → (us : List Value) (ns : List ℕ) → each_of us N ≡ Some ns →
    list_all Q ns ≡ true → collect us G ≡ Some (spread f us ns)
collect-bounded N G f Q h us ns q a = (collect-spread (λ v. M (N v)) G f (λ v n e. let p = passes (N v) n e in h v n p.0 p.1) us ns
    (same-numbers us ns q a)).0
  where
    M : Option ℕ → Option ℕ
    M o = and_then o (λ n. if Q n then Some n else None)

    passes : (o : Option ℕ) (n : ℕ) → M o ≡ Some n → (o ≡ Some n) × (Q n ≡ true)
    passes None n e = cc
    passes (Some k) n e = go (Q k) refl e
      where
        go : (b : Bool) → Q k ≡ b → (if b then Some k else None) ≡ Some n → (Some k ≡ Some n) × (Q n ≡ true)
        go true s e = (e, ap Q (let z : n ≡ k = cc in z) ∙ s)
        go false s e = cc

    same-numbers : (us : List Value) (ns : List ℕ) → each_of us N ≡ Some ns → list_all Q ns ≡ true → each_of us (λ v. M (N v)) ≡ Some ns
    same-numbers [] ns q a = q
    same-numbers (u ∷ us) ns q a = go (N u) refl (each_of us N) refl q (λ ms e b. same-numbers us ms e b)
      where
        go : (o : Option ℕ) → N u ≡ o → (p : Option (List ℕ)) → each_of us N ≡ p → and_then o (λ y. option_map (λ ys. y ∷ ys) p) ≡ Some ns →
            ((ms : List ℕ) → each_of us N ≡ Some ms → list_all Q ms ≡ true → each_of us (λ v. M (N v)) ≡ Some ms) →
            and_then (M (N u)) (λ y. option_map (λ ys. y ∷ ys) (each_of us (λ v. M (N v)))) ≡ Some ns
        go None x p y q r = cc
        go (Some n) x None y q r = cc
        go (Some n) x (Some ms) y q r = let e : n ∷ ms ≡ ns = cc in let b : list_all Q (n ∷ ms) ≡ true = ap (list_all Q) e ∙ a in
            ap (λ o. and_then (M o) (λ y. option_map (λ ys. y ∷ ys) (each_of us (λ v. M (N v))))) x
            ∙ ap (λ c. and_then (if c then Some n else None) (λ y. option_map (λ ys. y ∷ ys) (each_of us (λ v. M (N v)))))
            (and-left (Q n) (list_all Q ms) b)
            ∙ ap (option_map (λ ys. n ∷ ys)) (r ms y (and-right (Q n) (list_all Q ms) b)) ∙ ap Some e

spread-repeated : (us : List Value) (ns : List ℕ) → spread (λ n v. replicate n v) us ns ≡ each_repeated ns us
spread-repeated [] [] = refl
spread-repeated [] (n ∷ ns) = refl
spread-repeated (u ∷ us) [] = refl
spread-repeated (u ∷ us) (n ∷ ns) = ap (λ l. replicate n u ++ l) (spread-repeated us ns)

-- No number is above how often its member is there.
bounded : (M : ℕ) (us : List Value) (ns : List ℕ) → AsMany us ns → ((v : Value) → count (each_repeated ns us) v ≤ M) →
    list_all (λ n. nat_le n M) ns ≡ true
bounded M [] [] a h = refl
bounded M (u ∷ us) (n ∷ ns) a h = and-both (nat_le n M) (list_all (λ n. nat_le n M) ns)
    (le-leb n M (let c = h u in let p = count-append (replicate n u) (each_repeated ns us) u in
    let r = count-replicate n u u ∙ ap (λ b. if b then n else 0) (same-itself u) in omega arith))
    (bounded M us ns a (λ v. let c = h v in let p = count-append (replicate n u) (each_repeated ns us) v in omega arith))
bounded M [] (n ∷ ns) a h = absurd a
bounded M (u ∷ us) [] a h = absurd a

-- ---- the view

each-of-any : (o : Option (List Value)) (P : Value → Type 0) → ((v : Value) → P v) → EachOf o P
each-of-any None P f = tt
each-of-any (Some vs) P f = each-any vs P f

-- A name stays unused in an index list with one more index.
pub put-unused : (y x : Text) (js : Exs) → NamesAreExs (λ a. not (same_text y a)) (λ a. true) js → not (same_text y x) ≡ true →
    NamesAreExs (λ a. not (same_text y a)) (λ a. true) (put_last js (name_ex x))
put-unused y x no_exs o h = (h, tt)
put-unused y x (more_exs e es) o h = (o.0, put-unused y x es o.1 h)

module _ (x y : Text) (o : Ex) (ms : List Mark) (es : Exs) (dd : Dom) (m : Text) (js : Exs) (env : Env)
    (new-x : NamesAreExs (λ a. not (same_text x a)) (λ a. true) js) (new-y : NamesAreExs (λ a. not (same_text y a)) (λ a. true) js)
    (apart : not (same_text y x) ≡ true) (new-o : Unused x o) (met : Meets (View ms es dd m js env) env)
    (there : IsTrue (is_some (members_in (domain_of dd env)))) (often : OftenEnough o (View ms es dd m js env) env) where
  abbrev V : Ex
  V = View ms es dd m js env

  s : Stands ms es dd m js env
  s = stands ms es dd m js env met there

  abbrev Number : Ex
  Number = number_at m js x

  abbrev Test : Ex
  Test = ex2 true Op2.Le (name_ex y) Number

  abbrev Listing : Alternative
  Listing = record { gens = over (name_pat x) dd (over (name_pat y) (slots_dom o) (cond Test no_gens)); item = name_ex x }

  abbrev N : Value → Option ℕ
  N v = and_then (cell_at s.t (s.i ++ (code v ∷ []))) not_below_0

  -- Where x is a member and y a number.
  abbrev Here : Value → Value → Env
  Here v k = behind y k (behind x v env)

  abbrev Inner : Value → Value → Option (List Value)
  Inner v k = where_true (meaning Test (Here v k)) (λ u. option_map (λ w. w ∷ []) (meaning (name_ex x) (Here v k)))

  abbrev At : Value → Option (List Value)
  At v = and_then (members_in (domain_of (slots_dom o) (behind x v env))) (λ ks. collect ks (Inner v))

  test-is : (v : Value) (n : ℕ) → N v ≡ Some n → (k : ℤ) → Inner v (number k) ≡
      where_true (Some (truth (up_to_number n k))) (λ u. Some (v ∷ []))
  test-is v n q k = ap (λ z. where_true z (λ u. option_map (λ w. w ∷ []) (meaning (name_ex x) (Here v (number k)))))
      (binary-means (Here v (number k)) true Op2.Le (name_ex y) Number (number k) (number (pos n))
      (name-behind y (number k) (behind x v env))
      (meaning-behind y (number k) Number (behind x v env) (put-unused y x js new-y apart)
      ∙ number-means ms es dd m js env x new-x s v n q))
      ∙ ap (λ z. where_true (Some (truth (up_to_number n k))) (λ u. option_map (λ w. w ∷ []) z))
      (meaning-behind y (number k) (name_ex x) (behind x v env) apart ∙ name-behind x v env)

  at-member : (v : Value) (n : ℕ) → N v ≡ Some n → nat_le n often.often ≡ true → At v ≡ Some (replicate n v)
  at-member v n q l = ap (λ z. and_then z (λ ks. collect ks (Inner v)))
      (slots-members o (behind x v env) often.often (meaning-behind x v o env new-o ∙ often.says))
      ∙ run-repeats n v (Inner v) (test-is v n q) 1 often.often n (omega arith) (leb-true n often.often l)

  as-many : AsMany s.us s.ns
  as-many = (collect-spread N (λ v. option_map (λ n. []) (N v)) (λ n v. []) (λ v n q. ap (option_map (λ n. [])) q) s.us s.ns s.numbers).1

  in-bounds : list_all (λ n. nat_le n often.often) s.ns ≡ true
  in-bounds = bounded often.often s.us s.ns as-many (λ v. leb-true _ often.often
      (ap (λ l. nat_le (count l v) often.often) (sym (to_list-of_list (each_repeated s.ns s.us)))
      ∙ often.enough (node a_mset (of_list (each_repeated s.ns s.us))) s.is_value v))

  items-are : option_map items_of (meaning V env) ≡ items_listed Listing env
  items-are = ap (option_map items_of) s.is_value ∙ ap Some (to_list-of_list (each_repeated s.ns s.us))
      ∙ sym (ap (λ z. and_then z (λ vs. collect vs At)) s.members_are
      ∙ collect-bounded N At (λ n v. replicate n v) (λ n. nat_le n often.often) at-member s.us s.ns s.numbers in-bounds
      ∙ ap Some (spread-repeated s.us s.ns))

  offered : OffersInOrder V Listing env
  offered = record {
    items = items-are;
    met = (
      met.1.1,
      each-of-any (members_in (domain_of dd env)) _ (λ v. (
        (tt, (meets-behind x v o env new-o often.met, tt)),
        each-of-any (members_in (domain_of (slots_dom o) (behind x v env))) _ (λ k. (
          (
            tt,
            (meets-behind y k Number (behind x v env) (put-unused y x js new-y apart) (last-met x v js env new-x met.2), tt),
          ),
          λ z. tt,
        )),
      )),
    );
  }

-- Multisets that have a number for each member.
pub occurrence_members-offered : NumberedMembersAreListed
occurrence_members-offered x y o (seen_ex (repr ReprKind.MSetOccurrence no_reprs) (mset_dom ms es d) (t ∷ []) js) env a b c p h n f =
    offered x y o ms es d t js env a.1 b.1 c p h n f
occurrence_members-offered x y o _ env a b c p h n f = tt
