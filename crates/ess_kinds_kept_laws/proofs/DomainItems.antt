-- The item of a literal over an index domain at an index: that at the place whose number is how many members are below the index.
use Rattle.std.proofs.Common.{◌≡◌, refl, sym, ap, ◌∙◌, subst, ℕ, suc, ◌+◌, Bool, true, false, ◌||◌, if◌then◌else◌, List, [], ◌∷◌, ◌++◌, length, pos, Option, Some, None, option_map, nat_eq, arith}
use Rattle.std.proofs.lemmas.Bool.{eqb-true}
use Rattle.std.specs.Prelude.{is_some}
use Rattle.std.specs.List.{list_any}
use Rattle.ess_semantics.specs.declared.words.Op2.{Op2}
use Rattle.ess_semantics.specs.declared.words.Fun.{Fun}
use Rattle.ess_semantics.specs.Lists.{and_then, all_some, when, list_or_none}
use Rattle.ess_semantics.specs.Values.{Text, Value, number, truth, of_list, matrix, itself}
use Rattle.ess_semantics.specs.Order.{same, same_int}
use Rattle.ess_semantics.specs.Collections.{holds, rises}
use Rattle.ess_semantics.specs.Trees.{binary, word, index, by_value, name_pat, Ex, Exs, number_ex, name_ex, node_ex, matrix_ex, no_exs, more_exs, ex2, no_gens, over, Dom}
use Rattle.ess_semantics.specs.Domains.{Domain, members}
use Rattle.ess_semantics.specs.Operators.{value_of_node, false_where_undefined, sum_of, list_value, item_at}
use Rattle.ess_semantics.specs.Meaning.{Env, meaning, meanings, domain_of, members_in, collect, where_true, matrix_value}
use Rattle.ess_semantics.specs.Contexts.{EachOf}
use Rattle.ess_semantics.specs.Meets.{Meets, MeetsAll, MeetsDom}
use Rattle.ess_semantics.proofs.Tests.{or-left-no, or-right-no}
use Rattle.ess_semantics.proofs.Orders.{to_list-of_list}
use Rattle.ess_repr_laws.proofs.AllMembersListed.{domain-listed}
use Rattle.ess_rules_laws.specs.Rules.{Unused}
use Rattle.ess_rules_laws.specs.Listings.{Alternative, all_listed}
use Rattle.ess_rules_laws.specs.ListedSources.{AllMet}
use Rattle.ess_rules_laws.specs.FunctionLookups.{unmarked}
use Rattle.ess_rules_laws.specs.Lookups.{found}
use Rattle.ess_rules_laws.specs.AlternativeLookups.{LookedBy, FirstOperandThere}
use Rattle.ess_rules_laws.proofs.Connectives.{binary-means, any-means, bits, collect-bits, any-bits}
use Rattle.ess_rules_laws.proofs.Lookups.{single}
use Rattle.ess_rules_laws.proofs.RuleAnswers.{behind, each-any, meaning-behind, meets-behind, name-behind}
use Rattle.ess_views_laws.specs.PartitionViews.{is_one_of}
use Rattle.ess_kind_rules_laws.specs.TermLookups.{count_below, items_at_places, domain_list_lookup}
use Rattle.ess_kinds_kept_laws.proofs.PlacesBelow.{below_count, ones, ones-sum, collect-ones, at_place, place-found}

no : {A : Type 0} → false ≡ true → A
no h = cc

-- ---- the literal

module _ (x : Text) (es : Exs) (d : Dom) (i : Ex) (env : Env) (new-i : Unused x i) (us vs : List Value)
    (members-are : members_in (domain_of d env) ≡ Some us) (items-are : all_some (meanings es env) ≡ Some vs)
    (as_many : nat_eq (length us) (length vs) ≡ true) (rising : rises itself us ≡ true) where
  abbrev Literal : Ex
  Literal = matrix_ex es d

  abbrev Whole : Ex
  Whole = node_ex false (index (by_value ∷ [])) (more_exs Literal (more_exs i no_exs))

  value-is : meaning Literal env ≡ Some (matrix (of_list us) (of_list vs))
  value-is = ap (λ o. and_then o (matrix_value (members_in (domain_of d env)))) items-are
      ∙ ap (λ o. matrix_value o vs) members-are
      ∙ go (nat_eq (length us) (length vs)) as_many
    where
      go : (b : Bool) → b ≡ true → when b (matrix (of_list us) (of_list vs)) ≡ Some (matrix (of_list us) (of_list vs))
      go true h = refl
      go false h = no h

  abbrev Is : Ex
  Is = ex2 true Op2.Eq (name_ex x) i

  abbrev Lower : Ex
  Lower = ex2 true Op2.Lt (name_ex x) i

  abbrev AtIs : Value → Option (List Value)
  AtIs v = option_map (λ w. w ∷ []) (meaning Is (behind x v env))

  any-same : (us : List Value) (w : Value) → list_any (λ v. same v w) us ≡ holds us w
  any-same [] w = refl
  any-same (u ∷ us) w = ap (λ b. same u w || b) (any-same us w)

  any-never : (us : List Value) → list_any (λ v. false) us ≡ false
  any-never [] = refl
  any-never (u ∷ us) = any-never us

  one-means : (w : Value) → meaning i env ≡ Some w → meaning (is_one_of x d i) env ≡ Some (truth (holds us w))
  one-means w q = any-means env Is (over (name_pat x) d no_gens) (bits (λ v. same v w) us)
      (ap (λ o. and_then o (λ vs. collect vs AtIs)) members-are ∙ collect-bits us AtIs (λ v. same v w)
      (each-any us _ (λ v. ap (option_map (λ w. w ∷ []))
      (binary-means (behind x v env) true Op2.Eq (name_ex x) i v w (name-behind x v env) (meaning-behind x v i env new-i ∙ q)))))
      ∙ ap (λ b. Some (truth b)) (any-bits (λ v. same v w) us ∙ any-same us w)

  one-nowhere : meaning i env ≡ None → meaning (is_one_of x d i) env ≡ Some (truth false)
  one-nowhere q = any-means env Is (over (name_pat x) d no_gens) (bits (λ v. false) us)
      (ap (λ o. and_then o (λ vs. collect vs AtIs)) members-are ∙ collect-bits us AtIs (λ v. false)
      (each-any us _ (λ v. ap (option_map (λ w. w ∷ []))
      (ap (λ o. false_where_undefined true (value_of_node (binary Op2.Eq) (o ∷ meaning i (behind x v env) ∷ []))) (name-behind x v env)
      ∙ ap (λ o. false_where_undefined true (value_of_node (binary Op2.Eq) (Some v ∷ o ∷ []))) (meaning-behind x v i env new-i ∙ q)))))
      ∙ ap (λ b. Some (truth b)) (any-bits (λ v. false) us ∙ any-never us)

  abbrev AtLower : Value → Option (List Value)
  AtLower v = where_true (meaning Lower (behind x v env)) (λ z. Some (number (pos 1) ∷ []))

  count-means : (w : Value) → meaning i env ≡ Some w → meaning (count_below x d i) env ≡ Some (number (pos (below_count us w)))
  count-means w q = ap (λ o. value_of_node (word Fun.Sum) (option_map list_value o ∷ []))
      (ap (λ o. and_then o (λ vs. collect vs AtLower)) members-are ∙ collect-ones w AtLower
      (λ v. ap (λ o. where_true o (λ z. Some (number (pos 1) ∷ [])))
      (binary-means (behind x v env) true Op2.Lt (name_ex x) i v w (name-behind x v env) (meaning-behind x v i env new-i ∙ q))) us)
      ∙ ap (λ l. Some (number (sum_of l))) (to_list-of_list (ones us w)) ∙ ap (λ z. Some (number z)) (ones-sum us w)

  -- ---- the alternatives

  abbrev Place : ℕ → Ex
  Place k = ex2 true Op2.Eq (count_below x d i) (number_ex (pos k))

  -- Where the index is a member.
  listed : (w : Value) → meaning i env ≡ Some w → holds us w ≡ true → (es : Exs) (vs : List Value) → all_some (meanings es env) ≡ Some vs →
      (k : ℕ) → all_listed (items_at_places x d i k es) env ≡ Some (at_place vs k (below_count us w))
  listed w q h no_exs vs p k = ap (λ l. Some (at_place l k (below_count us w))) (let e : [] ≡ vs = cc in e)
  listed w q h (more_exs e es) vs p k = go (meaning e env) refl (all_some (meanings es env)) refl p
      (λ zs r. listed w q h es zs r (suc k))
    where
      At : Option (List Value)
      At = where_true (meaning (is_one_of x d i) env) (λ u. where_true (meaning (Place k) env) (λ u. single (meaning e env)))

      at-is : (v : Value) → meaning e env ≡ Some v →
          At ≡ Some (if same_int (pos (below_count us w)) (pos k) then v ∷ [] else [])
      at-is v a = ap (λ o. where_true o (λ u. where_true (meaning (Place k) env) (λ u. single (meaning e env))))
          (one-means w q ∙ ap (λ b. Some (truth b)) h)
          ∙ ap (λ o. where_true o (λ u. single (meaning e env)))
          (binary-means env true Op2.Eq (count_below x d i) (number_ex (pos k)) (number (pos (below_count us w))) (number (pos k))
          (count-means w q) refl)
          ∙ ap (λ o. where_true (Some (truth (same_int (pos (below_count us w)) (pos k)))) (λ u. single o)) a
          ∙ bit (same_int (pos (below_count us w)) (pos k))
        where
          bit : (b : Bool) → where_true (Some (truth b)) (λ u. Some (v ∷ [])) ≡ Some (if b then v ∷ [] else [])
          bit true = refl
          bit false = refl

      go : (o : Option Value) → meaning e env ≡ o → (r : Option (List Value)) → all_some (meanings es env) ≡ r →
          and_then o (λ x. option_map (λ xs. x ∷ xs) r) ≡ Some vs →
          ((zs : List Value) → all_some (meanings es env) ≡ Some zs →
          all_listed (items_at_places x d i (suc k) es) env ≡ Some (at_place zs (suc k) (below_count us w))) →
          and_then At (λ xs. option_map (λ ys. xs ++ ys) (all_listed (items_at_places x d i (suc k) es) env)) ≡
          Some (at_place vs k (below_count us w))
      go None a r b p f = cc
      go (Some v) a None b p f = cc
      go (Some v) a (Some zs) b p f =
          ap (λ o. and_then o (λ xs. option_map (λ ys. xs ++ ys) (all_listed (items_at_places x d i (suc k) es) env))) (at-is v a)
          ∙ ap (option_map (λ ys. (if same_int (pos (below_count us w)) (pos k) then v ∷ [] else []) ++ ys)) (f zs b)
          ∙ ap (λ l. Some (at_place l k (below_count us w))) (let z : v ∷ zs ≡ vs = cc in z)

  -- Where it is none.
  none-listed : meaning (is_one_of x d i) env ≡ Some (truth false) → (es : Exs) (k : ℕ) →
      all_listed (items_at_places x d i k es) env ≡ Some []
  none-listed q no_exs k = refl
  none-listed q (more_exs e es) k =
      ap (λ o. and_then (where_true o (λ u. where_true (meaning (Place k) env) (λ u. single (meaning e env))))
      (λ xs. option_map (λ ys. xs ++ ys) (all_listed (items_at_places x d i (suc k) es) env))) q
      ∙ ap (option_map (λ ys. ys)) (none-listed q es (suc k))

  item-nowhere : (us vs : List Value) (w : Value) → holds us w ≡ false → item_at (of_list us) (of_list vs) w ≡ None
  item-nowhere [] vs w h = refl
  item-nowhere (u ∷ us) [] w h = refl
  item-nowhere (u ∷ us) (v ∷ vs) w h = ap (λ b. if b then Some v else item_at (of_list us) (of_list vs) w)
      (or-left-no (same u w) (holds us w) h)
      ∙ item-nowhere us vs w (or-right-no (same u w) (holds us w) h)

  whole-means : (w : Value) → meaning i env ≡ Some w → meaning Whole env ≡ item_at (of_list us) (of_list vs) w
  whole-means w q = ap (λ o. value_of_node (index (by_value ∷ [])) (o ∷ meaning i env ∷ [])) value-is
      ∙ ap (λ o. value_of_node (index (by_value ∷ [])) (Some (matrix (of_list us) (of_list vs)) ∷ o ∷ [])) q
      ∙ itself-again (item_at (of_list us) (of_list vs) w)
    where
      itself-again : (o : Option Value) → and_then o (λ z. Some z) ≡ o
      itself-again None = refl
      itself-again (Some z) = refl

  -- Together they have the item, or none.
  items-listed : all_listed (items_at_places x d i 0 es) env ≡ Some (found (meaning Whole env))
  items-listed = go (meaning i env) refl
    where
      held : (w : Value) → meaning i env ≡ Some w → (b : Bool) → holds us w ≡ b →
          all_listed (items_at_places x d i 0 es) env ≡ Some (found (item_at (of_list us) (of_list vs) w))
      held w q true h = listed w q h es vs items-are 0 ∙ ap Some (ap (at_place vs 0) (let z : below_count us w ≡ 0 + below_count us w = omega arith in z)
          ∙ place-found us vs w rising (eqb-true (length us) (length vs) as_many) h 0)
      held w q false h = none-listed (one-means w q ∙ ap (λ b. Some (truth b)) h) es 0
          ∙ sym (ap (λ o. Some (found o)) (item-nowhere us vs w h))

      go : (o : Option Value) → meaning i env ≡ o → all_listed (items_at_places x d i 0 es) env ≡ Some (found (meaning Whole env))
      go None q = none-listed (one-nowhere q) es 0
          ∙ sym (ap (λ o. Some (found (value_of_node (index (by_value ∷ [])) (o ∷ meaning i env ∷ [])))) value-is
          ∙ ap (λ o. Some (found (value_of_node (index (by_value ∷ [])) (Some (matrix (of_list us) (of_list vs)) ∷ o ∷ [])))) q)
      go (Some w) q = held w q (holds us w) refl ∙ sym (ap (λ o. Some (found o)) (whole-means w q))

  each-of-any : (o : Option (List Value)) (P : Value → Type 0) → ((v : Value) → P v) → EachOf o P
  each-of-any None P f = tt
  each-of-any (Some vs) P f = each-any vs P f

  all-met : MeetsDom d env → Meets i env → (es : Exs) → MeetsAll false es env → (k : ℕ) → AllMet (items_at_places x d i k es) env
  all-met md mi no_exs me k = tt
  all-met md mi (more_exs e es) me k = (
    (
      ((md, each-of-any (members_in (domain_of d env)) _ (λ v. (tt, (meets-behind x v i env new-i mi, tt)))), tt),
      λ z. (
        (
          (
            (md, each-of-any (members_in (domain_of d env)) _ (λ v. ((tt, (meets-behind x v i env new-i mi, tt)), λ y. tt))),
            tt,
          ),
          (tt, tt),
        ),
        λ y. me.0,
      ),
    ),
    all-met md mi es me.1 (suc k),
  )

-- ---- the lookup

abbrev AnswerLookedBy : Option (List Alternative) → Ex → Env → Type 0
AnswerLookedBy None t env = Unit {0}
AnswerLookedBy (Some l) t env = LookedBy t l env

-- The parts of a literal that is there.
record LiteralThere (es : Exs) (d : Dom) (env : Env) : Type 0 where
  pub us : List Value
  pub vs : List Value
  pub members_are : members_in (domain_of d env) ≡ Some us
  pub items_are : all_some (meanings es env) ≡ Some vs
  pub as_many : nat_eq (length us) (length vs) ≡ true
  pub rising : rises itself us ≡ true

literal-there : (es : Exs) (d : Dom) (env : Env) → is_some (meaning (matrix_ex es d) env) ≡ true → LiteralThere es d env
literal-there es d env h = go (all_some (meanings es env)) refl (domain_of d env) refl h
  where
    made : (vs us : List Value) (e : Domain) → all_some (meanings es env) ≡ Some vs → domain_of d env ≡ Some e → members e ≡ Some us →
        (b : Bool) → nat_eq (length us) (length vs) ≡ b → is_some (when b (matrix (of_list us) (of_list vs))) ≡ true → LiteralThere es d env
    made vs us e p q m true n h = record {
      us = us;
      vs = vs;
      members_are = ap members_in q ∙ m;
      items_are = p;
      as_many = n;
      rising = ap (rises itself) (sym (ap list_or_none m)) ∙ (domain-listed e).sorted;
    }
    made vs us e p q m false n h = no h

    inner : (vs : List Value) (e : Domain) → all_some (meanings es env) ≡ Some vs → domain_of d env ≡ Some e → (o : Option (List Value)) →
        members e ≡ o → is_some (matrix_value o vs) ≡ true → LiteralThere es d env
    inner vs e p q None m h = no h
    inner vs e p q (Some us) m h = made vs us e p q m (nat_eq (length us) (length vs)) refl h

    go : (o : Option (List Value)) → all_some (meanings es env) ≡ o → (t : Option Domain) → domain_of d env ≡ t →
        is_some (and_then o (matrix_value (members_in t))) ≡ true → LiteralThere es d env
    go None p t q h = no h
    go (Some vs) p None q h = no h
    go (Some vs) p (Some e) q h = inner vs e p q (members e) refl h

domain-answer : (x : Text) (e : Ex) (env : Env) → Unused x e → FirstOperandThere e env → Meets e env →
    AnswerLookedBy (domain_list_lookup x e) (unmarked e) env
domain-answer x (node_ex b (index (by_value ∷ [])) (more_exs (matrix_ex es d) (more_exs i no_exs))) env new t m =
    let l = literal-there es d env t in record {
      items = items-listed x es d i env new.1.0 l.us l.vs l.members_are l.items_are l.as_many l.rising;
      met = all-met x es d i env new.1.0 l.us l.vs l.members_are l.items_are l.as_many l.rising m.0.1 m.1.0 es m.0.0 0;
    }
domain-answer x _ env new t m = tt

-- So it is looked up.
pub domain_list-looked : (x : Text) (e : Ex) (l : List Alternative) → domain_list_lookup x e ≡ Some l → (env : Env) → Unused x e →
    FirstOperandThere e env → Meets e env → LookedBy (unmarked e) l env
domain_list-looked x e l q env new t m = subst (λ z. AnswerLookedBy z (unmarked e) env) q (domain-answer x e env new t m)
