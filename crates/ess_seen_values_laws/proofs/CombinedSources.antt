-- A set that is made of two, as a source: of a union it offers the members of the first, and those of the second that aren't in the
-- first; of an intersection the members of the first that are in the second; of a difference those that aren't.
use Rattle.std.proofs.Common.{◌≡◌, refl, sym, ap, ◌∙◌, subst, ℕ, Bool, true, false, ◌||◌, not, if◌then◌else◌, List, [], ◌∷◌, ◌++◌, filter, Option, Some, None, option_map}
use Rattle.std.specs.Prelude.{IsTrue}
use Rattle.ess_semantics.specs.declared.words.Op1.{Op1}
use Rattle.ess_semantics.specs.declared.words.Op2.{Op2}
use Rattle.ess_semantics.specs.Lists.{and_then, or_else}
use Rattle.ess_semantics.specs.Values.{Text, a_set, Value, truth, node, items_of}
use Rattle.ess_semantics.specs.Order.{same_text}
use Rattle.ess_semantics.specs.Collections.{holds}
use Rattle.ess_semantics.specs.Names.{Names}
use Rattle.ess_semantics.specs.Trees.{Ex, name_ex, ex1, ex2, Gens, no_gens, cond, set_dom}
use Rattle.ess_semantics.specs.Types.{Ty}
use Rattle.ess_semantics.specs.Typing.{type_of}
use Rattle.ess_semantics.specs.Typed.{Typed}
use Rattle.ess_semantics.specs.TypeMembers.{is_of_type}
use Rattle.ess_semantics.specs.Meaning.{Env, meaning}
use Rattle.ess_semantics.specs.Meets.{Meets}
use Rattle.ess_semantics.specs.Substitution.{NamesAre, NamesAreGens}
use Rattle.ess_semantics.proofs.Texts.{same_text-itself}
use Rattle.ess_nested_laws.proofs.NestedForms.{nested-form}
use Rattle.ess_rules_laws.specs.Rules.{Unused}
use Rattle.ess_rules_laws.specs.InclusionRules.{both_sets}
use Rattle.ess_rules_laws.specs.Listings.{Alternative, items_listed, all_listed, Lists, those, listing}
use Rattle.ess_rules_laws.specs.ListedSources.{Offers, PutApart, EachApart}
use Rattle.ess_rules_laws.proofs.RuleAnswers.{behind}
use Rattle.ess_rules_laws.proofs.Connectives.{not-means}
use Rattle.ess_rules_laws.proofs.ContainerValues.{Pair, Strictly, sets-of}
use Rattle.ess_rules_laws.proofs.InclusionRules.{member-body}
use Rattle.ess_rules_laws.proofs.ListedItems.{same-lists, counted-same, tested-listed, all-members, alone-listed}
use Rattle.ess_rules_laws.proofs.Listings.{union-items, both-items, rest-items, union-counts}
use Rattle.ess_rules_laws.proofs.ListingStructures.{listings-met}
use Rattle.ess_refine_laws.specs.AllRules.{Supply, offered}
use Rattle.ess_values_along_laws.specs.Valued.{Valued}
use Rattle.ess_values_terms_laws.proofs.ValuedForms.{there}
use Rattle.ess_values_sources_laws.specs.ListedValues.{AllUnder}
use Rattle.ess_values_sources_laws.proofs.OfferedValues.{OfferUnder, offered-under}
use Rattle.ess_open_rules_laws.specs.OpenSources.{all_offered}
use Rattle.ess_seen_laws.specs.Seen.{Kind, sets_of, kind_ty, Bound, bound_types, Combines, united, shared, lessened, SetTerm, view, drawn, combined}
use Rattle.ess_seen_values_laws.proofs.SizeNames.{nested-named}
use Rattle.ess_seen_values_laws.proofs.Names.{places-free, put}
use Rattle.ess_seen_values_laws.proofs.Marks.{IsSet, set-value}

-- ---- what two sets have in common, as lists

module _ (x : Text) (a b : Ex) (env : Env) (v w : Value) (j : meaning a env ≡ Some v) (k : meaning b env ≡ Some w)
    (p : Pair Strictly v w) (new-a : Unused x a) (new-b : Unused x b) where
  abbrev xs : List Value
  xs = items_of v

  abbrev ys : List Value
  ys = items_of w

  -- That x is in the first, and that it is in the second.
  abbrev in_first : Ex
  in_first = ex2 true Op2.Member (name_ex x) a

  abbrev in_second : Ex
  in_second = ex2 true Op2.Member (name_ex x) b

  not-first : (u : Value) → meaning (ex1 true Op1.Not in_first) (behind x u env) ≡ Some (truth (not (holds xs u)))
  not-first u = not-means (behind x u env) in_first (holds xs u) (member-body x a env v new-a j u)

  not-second : (u : Value) → meaning (ex1 true Op1.Not in_second) (behind x u env) ≡ Some (truth (not (holds ys u)))
  not-second u = not-means (behind x u env) in_second (holds ys u) (member-body x b env w new-b k u)

  united-lists : Lists (ex2 false Op2.Union a b) (those x a no_gens ∷ those x b (cond (ex1 true Op1.Not in_first) no_gens) ∷ []) env
  united-lists = counted-same _ _ _ (xs ++ filter (λ y. not (holds xs y)) ys) (union-items a b env v w j k p)
      (ap (λ o. and_then o (λ us. option_map (λ zs. us ++ zs)
      (all_listed (those x b (cond (ex1 true Op1.Not in_first) no_gens) ∷ []) env)))
      (all-members x a env ∙ ap (option_map items_of) j)
      ∙ ap (option_map (λ zs. xs ++ zs))
      (alone-listed (items_listed (those x b (cond (ex1 true Op1.Not in_first) no_gens)) env)
      ∙ tested-listed x b (ex1 true Op1.Not in_first) env w (λ y. not (holds xs y)) k not-first))
      (union-counts a b env v w j k p)

  shared-lists : Lists (ex2 false Op2.Intersect a b) (those x a (cond in_second no_gens) ∷ []) env
  shared-lists = same-lists _ _ (both-items a b env v w j k p
      ∙ sym (alone-listed (items_listed (those x a (cond in_second no_gens)) env)
      ∙ tested-listed x a in_second env v (holds ys) j (member-body x b env w new-b k)))

  lessened-lists : Lists (ex2 false Op2.Minus a b) (those x a (cond (ex1 true Op1.Not in_second) no_gens) ∷ []) env
  lessened-lists = same-lists _ _ (rest-items a b env v w j k p
      ∙ sym (alone-listed (items_listed (those x a (cond (ex1 true Op1.Not in_second) no_gens)) env)
      ∙ tested-listed x a (ex1 true Op1.Not in_second) env v (λ y. not (holds ys y)) j not-second))

  -- Where a test holds the alternatives are these.
  if-listed : (c : Bool) (o l : List Alternative) (P : List Alternative → Type 0) → (if c then Some o else None) ≡ Some l → P o → P l
  if-listed true o l P q h = subst P (let e : o ≡ l = cc in e) h
  if-listed false o l P q h = cc

  -- What the set offers lists its members.
  lists-so : {o : Op2} → Combines o → (g : Names Ty) (l : List Alternative) → listing g x (ex2 false o a b) ≡ Some l →
      Lists (ex2 false o a b) l env
  lists-so united g l q = if-listed (both_sets (type_of a g) (type_of b g)) _ l (λ l. Lists (ex2 false Op2.Union a b) l env) q united-lists
  lists-so shared g l q =
      if-listed (both_sets (type_of a g) (type_of b g)) _ l (λ l. Lists (ex2 false Op2.Intersect a b) l env) q shared-lists
  lists-so lessened g l q =
      if-listed (both_sets (type_of a g) (type_of b g)) _ l (λ l. Lists (ex2 false Op2.Minus a b) l env) q lessened-lists

-- ---- values of sets

same-some : {A : Type 0} {x y : A} → Some x ≡ Some y → x ≡ y
same-some q = cc

-- Two sets are a pair of lists that rise.
set-pair : {k : Kind} (env : Env) (o p : Option Value) (s : IsSet k o env) (t : IsSet k p env) →
    Pair Strictly (node a_set s.members) (node a_set t.members)
set-pair {k} env o p s t =
    sets-of env.positions env.types (Some (kind_ty (sets_of k))) (Some (kind_ty (sets_of k))) (node a_set s.members) (node a_set t.members)
    refl (λ u q. subst (λ z. IsTrue (is_of_type z env (node a_set s.members))) (same-some q) s.typed)
    (λ u q. subst (λ z. IsTrue (is_of_type z env (node a_set t.members))) (same-some q) t.typed)

-- ---- what is offered

-- Nothing but by its form.
or-none : {A : Type 0} (o : Option A) (a : A) → or_else o None ≡ Some a → o ≡ Some a
or-none None a q = cc
or-none (Some x) a q = q

by-form : {o : Op2} → Combines o → (s : Supply) (g : Names Ty) (a b : Ex) (l : List Alternative) →
    all_offered s g (ex2 false o a b) ≡ Some l → offered s g (ex2 false o a b) ≡ Some l
by-form united s g a b l q = or-none (offered s g (ex2 false Op2.Union a b)) l q
by-form shared s g a b l q = or-none (offered s g (ex2 false Op2.Intersect a b)) l q
by-form lessened s g a b l q = or-none (offered s g (ex2 false Op2.Minus a b)) l q

by-listing : {o : Op2} → Combines o → (s : Supply) (g : Names Ty) (a b : Ex) (l : List Alternative) →
    offered s g (ex2 false o a b) ≡ Some l → listing g s.one (ex2 false o a b) ≡ Some l
by-listing united s g a b l q = or-none (listing g s.one (ex2 false Op2.Union a b)) l q
by-listing shared s g a b l q = or-none (listing g s.one (ex2 false Op2.Intersect a b)) l q
by-listing lessened s g a b l q = or-none (listing g s.one (ex2 false Op2.Minus a b)) l q

-- ---- its operands

both-met : {o : Op2} → Combines o → (a b : Ex) (env : Env) → Meets (ex2 false o a b) env → Meets a env × Meets b env
both-met united a b env m = (m.0, m.1.0)
both-met shared a b env m = (m.0, m.1.0)
both-met lessened a b env m = (m.0, m.1.0)

both-valued : {o : Op2} → Combines o → (a b : Ex) (env : Env) → Valued false (ex2 false o a b) env →
    Valued false a env × Valued false b env
both-valued united a b env v = (v.1.0, v.1.1.0)
both-valued shared a b env v = (v.1.0, v.1.1.0)
both-valued lessened a b env v = (v.1.0, v.1.1.0)

module _ (cells : Text → Option (Bool × List ℕ)) where
  -- Sets bind no name.
  pub set-free : {r : Names Bound} {e : Ex} {k : Kind} (b : Text → Bool) → SetTerm cells r e k → NamesAre (λ a. true) b e
  set-free b (view {ms = ms} {es = es} {d = d} n f q p) =
      (nested-named (λ a. true) b (nested-form 250 (set_dom ms es d) n), places-free b p)
  set-free b (drawn q) = refl
  set-free b (combined c s t) = (set-free b s, (set-free b t, tt))

  module _ {r : Names Bound} {o : Op2} {a b : Ex} {k : Kind} (c : Combines o) (s : SetTerm cells r a k) (t : SetTerm cells r b k)
      (y : Supply) (g : Names Ty) (l : List Alternative) (fires : all_offered y g (ex2 false o a b) ≡ Some l) where
    abbrev Whole : Ex
    Whole = ex2 false o a b

    listed : listing g y.one Whole ≡ Some l
    listed = by-listing c y g a b l (by-form c y g a b l fires)

    -- ---- names

    module _ (f : Text → Bool) (z : Text) (e : Ex) (hs : Gens)
        (body : NamesAre (λ n. not (same_text y.one n)) (λ n. not (put f y.one z n)) e)
        (gens : NamesAreGens (λ n. not (same_text y.one n)) (λ n. not (put f y.one z n)) hs) where
      or-first : (p q : Bool) → p ≡ true → p || q ≡ true
      or-first true q h = refl
      or-first false q h = cc

      or-second : (p q : Bool) → q ≡ true → p || q ≡ true
      or-second true q h = refl
      or-second false q h = h

      those-apart : (n : Ex) (gs : Gens) → NamesAre (λ n. true) (same_text y.one) n → NamesAreGens (λ n. true) (same_text y.one) gs →
          PutApart (same_text y.one) (put f y.one z) z e hs (those y.one n gs)
      those-apart n gs h i = (
        or-first (f z || same_text z z) (same_text y.one z) (or-second (f z) (same_text z z) (same_text-itself z)),
        or-second (f y.one || same_text z y.one) (same_text y.one y.one) (same_text-itself y.one),
        (same_text-itself y.one, h, i),
        gens,
        body,
      )

      -- What is put has names of its own.
      pub combined-apart : EachApart (same_text y.one) (put f y.one z) z e hs l
      combined-apart = go c listed
        where
          first : NamesAre (λ n. true) (same_text y.one) a
          first = set-free (same_text y.one) s

          second : NamesAre (λ n. true) (same_text y.one) b
          second = set-free (same_text y.one) t

          P : List Alternative → Type 0
          P l = EachApart (same_text y.one) (put f y.one z) z e hs l

          so : (c : Bool) (n : List Alternative) → (if c then Some n else None) ≡ Some l → P n → P l
          so true n q h = subst P (let e : n ≡ l = cc in e) h
          so false n q h = cc

          go : {o : Op2} → Combines o → listing g y.one (ex2 false o a b) ≡ Some l → P l
          go united q = so (both_sets (type_of a g) (type_of b g)) _ q (
            those-apart a no_gens first tt,
            (
              those-apart b (cond (ex1 true Op1.Not (ex2 true Op2.Member (name_ex y.one) a)) no_gens) second
                  (((refl, (first, tt)), tt), tt),
              tt,
            ),
          )
          go shared q = so (both_sets (type_of a g) (type_of b g)) _ q
              (those-apart a (cond (ex2 true Op2.Member (name_ex y.one) b) no_gens) first ((refl, (second, tt)), tt), tt)
          go lessened q = so (both_sets (type_of a g) (type_of b g)) _ q (
            those-apart a (cond (ex1 true Op1.Not (ex2 true Op2.Member (name_ex y.one) b)) no_gens) first
                (((refl, (second, tt)), tt), tt),
            tt,
          )

    -- ---- members and values

    module _ (env : Env) (typed : Typed (bound_types r) env) (u : Unused y.one Whole) (m : Meets Whole env) (v : Valued false Whole env)
      where
        -- The alternatives list the members of the set, and structures are met in them.
        pub combined-offers : Offers Whole l env
        combined-offers = record {
          lists = lists-so y.one a b env (node a_set p.members) (node a_set q.members) p.is_value q.is_value
              (set-pair env (meaning a env) (meaning b env) p q) u.0 u.1.0 c g l listed;
          met = listings-met g y.one Whole l listed u env m;
        }
          where
            i : Meets a env × Meets b env
            i = both-met c a b env m

            h : Valued false a env × Valued false b env
            h = both-valued c a b env v

            p : IsSet k (meaning a env) env
            p = set-value cells r env typed s i.0 (there a env h.0)

            q : IsSet k (meaning b env) env
            q = set-value cells r env typed t i.1 (there b env h.1)

        -- They have values.
        pub combined-under : AllUnder l env
        combined-under =
            subst (λ z. OfferUnder z env) (by-form c y g a b l fires) (offered-under env y g Whole u refl v)
