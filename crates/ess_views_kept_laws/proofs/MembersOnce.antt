-- The set of a multiset whose view has a number for each member of the inner domain offers the members whose number is above 0.
use Rattle.std.proofs.Common.{◌≡◌, refl, sym, ap, ◌∙◌, ℕ, suc, Bool, true, false, ◌||◌, not, if◌then◌else◌, List, [], ◌∷◌, ◌++◌, replicate, pos, Option, Some, None, option_map}
use Rattle.std.specs.Prelude.{IsTrue, is_some}
use Rattle.ess_semantics.specs.declared.words.Op2.{Op2}
use Rattle.ess_semantics.specs.declared.words.Fun.{Fun}
use Rattle.ess_semantics.specs.declared.words.ReprKind.{ReprKind}
use Rattle.ess_semantics.specs.Lists.{and_then, is_some_and}
use Rattle.ess_semantics.specs.Values.{Text, Value, number, truth, items_of, itself}
use Rattle.ess_semantics.specs.Order.{same, same_text, below}
use Rattle.ess_semantics.specs.Collections.{holds, count, no_twice, set_of, sorted_once}
use Rattle.ess_semantics.specs.Numbers.{not_below_0}
use Rattle.ess_semantics.specs.Tables.{code, cell_at}
use Rattle.ess_semantics.specs.Trees.{word, Mark, repr, no_reprs, more_reprs, name_pat, Ex, Exs, number_ex, name_ex, seen_ex, fun1, no_gens, over, cond, Dom, mset_dom}
use Rattle.ess_semantics.specs.Operators.{value_of_node}
use Rattle.ess_semantics.specs.Layers.{each_repeated}
use Rattle.ess_semantics.specs.Meaning.{Env, meaning, domain_of, members_in, collect, where_true}
use Rattle.ess_semantics.specs.Contexts.{EachOf}
use Rattle.ess_semantics.specs.Meets.{Meets}
use Rattle.ess_semantics.specs.Substitution.{NamesAreExs}
use Rattle.ess_semantics.proofs.Tests.{or-left-no, or-right-no}
use Rattle.ess_semantics.proofs.Orders.{to_list-of_list, same-equal}
use Rattle.ess_semantics.proofs.Overlaps.{holds-append}
use Rattle.ess_semantics.proofs.Sorting.{Distinct, twice-distinct}
use Rattle.ess_rules_laws.specs.Listings.{Alternative, items_listed, all_listed}
use Rattle.ess_rules_laws.specs.ListedSources.{Offers}
use Rattle.ess_rules_laws.proofs.Connectives.{binary-means}
use Rattle.ess_rules_laws.proofs.ExplicitListing.{last-met}
use Rattle.ess_rules_laws.proofs.ListedItems.{counted-same, alone-listed, count-sorted_once}
use Rattle.ess_rules_laws.proofs.RuleAnswers.{behind, each-any, name-behind}
use Rattle.ess_views_laws.specs.MultisetViews.{number_at, is_there}
use Rattle.ess_views_kept_laws.specs.MultisetsListed.{MembersOnceAreListed}
use Rattle.ess_views_kept_laws.proofs.NumberedMembers.{spread, AsMany, collect-spread, holds-replicate, View, Stands, stands, number-means}

no : {A : Type 0} → false ≡ true → A
no h = cc

-- ---- each value once

-- Whether a number is above 0.
abbrev above : ℕ → Bool
above n = below (number (pos 0)) (number (pos n))

-- The value, where its number is above 0.
abbrev once : ℕ → Value → List Value
once n v = if above n then v ∷ [] else []

-- What isn't among the values isn't there.
absent : (v : Value) (us : List Value) (ns : List ℕ) → AsMany us ns → holds us v ≡ false →
    (count (spread once us ns) v ≡ 0) × (holds (each_repeated ns us) v ≡ false)
absent v [] [] a h = (refl, refl)
absent v [] (n ∷ ns) a h = absurd a
absent v (u ∷ us) [] a h = absurd a
absent v (u ∷ us) (n ∷ ns) a h = let s = or-left-no (same u v) (holds us v) h in
    let r = absent v us ns a (or-right-no (same u v) (holds us v) h) in (
      go (above n) s ∙ r.0,
      holds-append (replicate n u) (each_repeated ns us) v
          ∙ ap (λ b. b || holds (each_repeated ns us) v) (holds-replicate n u v false s) ∙ r.1,
    )
  where
    go : (b : Bool) → same u v ≡ false → count ((if b then u ∷ [] else []) ++ spread once us ns) v ≡ count (spread once us ns) v
    go true s = ap (λ b. if b then suc (count (spread once us ns) v) else count (spread once us ns) v) s
    go false s = refl

-- Of values that differ each is there once or not at all.
present : (v : Value) (us : List Value) (ns : List ℕ) → AsMany us ns → Distinct us →
    count (spread once us ns) v ≡ (if holds (each_repeated ns us) v then 1 else 0)
present v [] [] a d = refl
present v [] (n ∷ ns) a d = absurd a
present v (u ∷ us) [] a d = absurd a
present v (u ∷ us) (n ∷ ns) a d = go (same u v) refl (present v us ns a d.1)
  where
    R : List Value
    R = each_repeated ns us

    Rest : List Value
    Rest = spread once us ns

    held : (b : Bool) → same u v ≡ b → holds (replicate n u ++ R) v ≡ ((if b then above n else false) || holds R v)
    held b s = holds-append (replicate n u) R v ∙ ap (λ c. c || holds R v) (holds-replicate n u v b s)

    here : (b : Bool) → same u v ≡ true → count Rest v ≡ 0 → holds R v ≡ false →
        count ((if b then u ∷ [] else []) ++ Rest) v ≡ (if b || holds R v then 1 else 0)
    here true s c h = ap (λ b. if b then suc (count Rest v) else count Rest v) s ∙ ap suc c
    here false s c h = c ∙ ap (λ b. if b then 1 else 0) (sym h)

    elsewhere : (b : Bool) → same u v ≡ false → count ((if b then u ∷ [] else []) ++ Rest) v ≡ count Rest v
    elsewhere true s = ap (λ b. if b then suc (count Rest v) else count Rest v) s
    elsewhere false s = refl

    go : (b : Bool) → same u v ≡ b → count Rest v ≡ (if holds R v then 1 else 0) →
        count ((if above n then u ∷ [] else []) ++ Rest) v ≡ (if holds (replicate n u ++ R) v then 1 else 0)
    go true s r = let t = absent v us ns a (ap (holds us) (sym (same-equal u v s)) ∙ d.0) in
        here (above n) s t.0 t.1 ∙ ap (λ b. if b then 1 else 0) (sym (held true s))
    go false s r = elsewhere (above n) s ∙ r ∙ ap (λ b. if b then 1 else 0) (sym (held false s))

-- ---- the view

each-of-any : (o : Option (List Value)) (P : Value → Type 0) → ((v : Value) → P v) → EachOf o P
each-of-any None P f = tt
each-of-any (Some vs) P f = each-any vs P f

where-if : (b : Bool) (z : Value) → where_true (Some (truth b)) (λ u. Some (z ∷ [])) ≡ Some (if b then z ∷ [] else [])
where-if true z = refl
where-if false z = refl

module _ (x : Text) (ms : List Mark) (es : Exs) (dd : Dom) (m : Text) (js : Exs) (env : Env)
    (new : NamesAreExs (λ a. not (same_text x a)) (λ a. true) js) (met : Meets (View ms es dd m js env) env)
    (there : IsTrue (is_some (members_in (domain_of dd env)))) (differ : is_some_and (members_in (domain_of dd env)) (no_twice itself) ≡
    true) where
  abbrev V : Ex
  V = View ms es dd m js env

  s : Stands ms es dd m js env
  s = stands ms es dd m js env met there

  abbrev There : Ex
  There = is_there m js x

  abbrev Listing : Alternative
  Listing = record { gens = over (name_pat x) dd (cond There no_gens); item = name_ex x }

  abbrev N : Value → Option ℕ
  N v = and_then (cell_at s.t (s.i ++ (code v ∷ []))) not_below_0

  abbrev At : Value → Option (List Value)
  At v = where_true (meaning There (behind x v env)) (λ u. option_map (λ w. w ∷ []) (meaning (name_ex x) (behind x v env)))

  abbrev R : List Value
  R = each_repeated s.ns s.us

  at-member : (v : Value) (n : ℕ) → N v ≡ Some n → At v ≡ Some (once n v)
  at-member v n q = ap (λ o. where_true o (λ u. option_map (λ w. w ∷ []) (meaning (name_ex x) (behind x v env))))
      (binary-means (behind x v env) true Op2.Gt (number_at m js x) (number_ex (pos 0)) (number (pos n)) (number (pos 0))
      (number-means ms es dd m js env x new s v n q) refl)
      ∙ ap (λ o. where_true (Some (truth (above n))) (λ u. option_map (λ w. w ∷ []) o)) (name-behind x v env)
      ∙ where-if (above n) v

  collected : (collect s.us At ≡ Some (spread once s.us s.ns)) × AsMany s.us s.ns
  collected = collect-spread N At once at-member s.us s.ns s.numbers

  set-is : meaning (fun1 false Fun.ToSet V) env ≡ Some (set_of R)
  set-is = ap (λ o. value_of_node (word Fun.ToSet) (o ∷ [])) s.is_value ∙ ap (λ l. Some (set_of l)) (to_list-of_list R)

  all-differ : no_twice itself s.us ≡ true
  all-differ = ap (λ o. is_some_and o (no_twice itself)) (sym s.members_are) ∙ differ

  once-offered : Offers (fun1 false Fun.ToSet V) (Listing ∷ []) env
  once-offered = record {
    lists = counted-same (option_map items_of (meaning (fun1 false Fun.ToSet V) env)) (all_listed (Listing ∷ []) env) (sorted_once R)
        (spread once s.us s.ns) (ap (option_map items_of) set-is ∙ ap Some (to_list-of_list (sorted_once R)))
        (alone-listed (items_listed Listing env) ∙ ap (λ o. and_then o (λ vs. collect vs At)) s.members_are ∙ collected.0)
        (λ v. count-sorted_once R v ∙ sym (present v s.us s.ns collected.1 (twice-distinct s.us all-differ)));
    met = (
      (
        met.1.1,
        each-of-any (members_in (domain_of dd env)) _ (λ v. ((last-met x v js env new met.2, (tt, tt)), λ z. tt)),
      ),
      tt,
    );
  }

-- Each member once.
pub members_once-offered : MembersOnceAreListed
members_once-offered x n (fun1 false Fun.ToSet (seen_ex (repr ReprKind.MSetOccurrence no_reprs) (mset_dom ms es d) (t ∷ []) js)) env o h c =
    once-offered x ms es d t js env o.0.1 h.0 c.0 c.1
members_once-offered x n (fun1 false Fun.ToSet
    (seen_ex (repr ReprKind.MSetExplicitWithFlags (more_reprs r no_reprs)) (mset_dom ms es d) (t ∷ ns) js)) env o h c =
    absurd c.0
members_once-offered x n _ env o h c = tt
