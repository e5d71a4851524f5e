-- Words that see no repeats run over what a set is made of, behind plain generators too.
use Rattle.std.proofs.Common.{◌≡◌, refl, sym, ap, ◌∙◌, subst, Bool, true, false, ◌&&◌, ◌||◌, if◌then◌else◌, List, [], ◌∷◌, ◌++◌, Option, Some, None, option_map}
use Rattle.std.specs.Prelude.{is_some}
use Rattle.std.specs.List.{list_all, list_any}
use Rattle.ess_semantics.specs.declared.words.Fun.{Fun}
use Rattle.ess_semantics.specs.Lists.{and_then}
use Rattle.ess_semantics.specs.Values.{Value, number, truth, item, node, to_list, of_list, items_of}
use Rattle.ess_semantics.specs.Order.{same}
use Rattle.ess_semantics.specs.Collections.{holds, sorted_once}
use Rattle.ess_semantics.specs.Trees.{word, Ex, comp_ex, fun1, Gens, no_gens, over, from, cond, Pat}
use Rattle.ess_semantics.specs.Operators.{value_of_node, false_where_undefined, list_value, truth_in, as_truth, least, greatest}
use Rattle.ess_semantics.specs.Contexts.{Each, EachOf, EachIn, AtEach}
use Rattle.ess_semantics.specs.Meaning.{Env, meaning, domain_of, members_in, items_under, with_pat, collect, where_true}
use Rattle.ess_semantics.specs.Meets.{Meets, MeetsGens}
use Rattle.ess_semantics.specs.Kept.{Keeps}
use Rattle.ess_semantics.proofs.Tests.{both-ways, or-yes}
use Rattle.ess_semantics.proofs.Orders.{to_list-of_list, same-equal, same-itself}
use Rattle.ess_semantics.proofs.Overlaps.{holds-append}
use Rattle.ess_semantics.proofs.Sorting.{one-set, holds-sorted_once, all-holds, holds-all}
use Rattle.ess_repr_laws.proofs.NumberedParts.{any-held, found-value}
use Rattle.ess_rules_laws.specs.SpliceRules.{append_gens}
use Rattle.ess_rules_laws.proofs.Bindings.{each-of-map, each-in-map}
use Rattle.ess_rules_laws.proofs.LeastGreatest.{least-once, greatest-once}
use Rattle.ess_rules_laws.proofs.RuleAnswers.{each-any, each-in-any}
use Rattle.ess_rules_laws.proofs.Splices.{items-append}
use Rattle.ess_rules_laws.proofs.Steps.{meets-gens-join}
use Rattle.ess_open_rules_laws.specs.OpenGenerators.{Opened, at_first_open}
use Rattle.ess_open_rules_laws.specs.OpenSources.{forgets_repeats, loose_source, seen_loosely}
use Rattle.ess_open_kept_laws.proofs.OpenedFolds.{opened-are}
use Rattle.ess_kinds_kept_laws.proofs.UnorderedTails.{meets-apart, meets-together}

no : {A : Type 0} → false ≡ true → A
no h = cc

-- ---- lists with the same items

all-shared : (f : Value → Bool) (xs ys : List Value) → ((v : Value) → holds xs v ≡ holds ys v) → list_all f xs ≡ list_all f ys
all-shared f xs ys s = both-ways (list_all f xs) (list_all f ys)
    (λ h. holds-all f ys (λ v z. all-holds f xs v h (s v ∙ z))) (λ h. holds-all f xs (λ v z. all-holds f ys v h (sym (s v) ∙ z)))

any-shared : (f : Value → Bool) (xs ys : List Value) → ((v : Value) → holds xs v ≡ holds ys v) → list_any f xs ≡ list_any f ys
any-shared f xs ys s = both-ways (list_any f xs) (list_any f ys)
    (λ h. let t = found-value f xs h in any-held f ys t.0 (sym (s t.0) ∙ t.1) t.2)
    (λ h. let t = found-value f ys h in any-held f xs t.0 (s t.0 ∙ t.1) t.2)

-- Both lists are there and have the same items, or neither is there.
abbrev Loosely : Option (List Value) → Option (List Value) → Type 0
Loosely None None = Unit {0}
Loosely (Some xs) (Some ys) = (v : Value) → holds xs v ≡ holds ys v
Loosely None (Some ys) = ⊥
Loosely (Some xs) None = ⊥

-- Such a word says the same of them.
word-loose : (m : Bool) (w : Fun) → forgets_repeats m w ≡ true → (o p : Option (List Value)) → Loosely o p →
    false_where_undefined m (value_of_node (word w) (option_map list_value o ∷ [])) ≡
    false_where_undefined m (value_of_node (word w) (option_map list_value p ∷ []))
word-loose m w h None None s = refl
word-loose m w h None (Some ys) s = absurd s
word-loose m w h (Some xs) None s = absurd s
word-loose true Fun.And h (Some xs) (Some ys) s = ap (λ l. Some (truth (list_all truth_in l))) (to_list-of_list xs)
    ∙ ap (λ b. Some (truth b)) (all-shared truth_in xs ys s) ∙ ap (λ l. Some (truth (list_all truth_in l))) (sym (to_list-of_list ys))
word-loose true Fun.Or h (Some xs) (Some ys) s = ap (λ l. Some (truth (list_any truth_in l))) (to_list-of_list xs)
    ∙ ap (λ b. Some (truth b)) (any-shared truth_in xs ys s) ∙ ap (λ l. Some (truth (list_any truth_in l))) (sym (to_list-of_list ys))
word-loose false Fun.Min h (Some xs) (Some ys) s = ap least (to_list-of_list xs)
    ∙ sym (least-once xs) ∙ ap least (one-set xs ys s) ∙ least-once ys ∙ ap least (sym (to_list-of_list ys))
word-loose false Fun.Max h (Some xs) (Some ys) s = ap greatest (to_list-of_list xs)
    ∙ sym (greatest-once xs) ∙ ap greatest (one-set xs ys s) ∙ greatest-once ys ∙ ap greatest (sym (to_list-of_list ys))
word-loose true _ h (Some xs) (Some ys) s = no h
word-loose false _ h (Some xs) (Some ys) s = no h

-- ---- what is collected

both-loose : (o o' p p' : Option (List Value)) → Loosely o o' → Loosely p p' →
    Loosely (and_then o (λ xs. option_map (λ ys. xs ++ ys) p)) (and_then o' (λ xs. option_map (λ ys. xs ++ ys) p'))
both-loose None None p p' s t = tt
both-loose (Some a) (Some b) None None s t = tt
both-loose (Some a) (Some b) (Some c) (Some d) s t = λ v. holds-append a c v
    ∙ ap (λ z. z || holds c v) (s v) ∙ ap (λ z. holds b v || z) (t v) ∙ sym (holds-append b d v)
both-loose (Some a) (Some b) (Some c) None s t = absurd t
both-loose (Some a) (Some b) None (Some d) s t = absurd t
both-loose None (Some b) p p' s t = absurd s
both-loose (Some a) None p p' s t = absurd s

collect-loose : (vs : List Value) (f g : Value → Option (List Value)) → Each vs (λ v. Loosely (f v) (g v)) →
    Loosely (collect vs f) (collect vs g)
collect-loose [] f g h = λ v. refl
collect-loose (v ∷ vs) f g h = both-loose (f v) (g v) (collect vs f) (collect vs g) h.0 (collect-loose vs f g h.1)

loose-of-each : (o : Option (List Value)) (f g : Value → Option (List Value)) → EachOf o (λ v. Loosely (f v) (g v)) →
    Loosely (and_then o (λ vs. collect vs f)) (and_then o (λ vs. collect vs g))
loose-of-each None f g h = tt
loose-of-each (Some vs) f g h = collect-loose vs f g h

loose-in-each : (o : Option Value) (f g : Value → Option (List Value)) → EachIn o (λ v. Loosely (f v) (g v)) →
    Loosely (and_then o (λ s. collect (items_of s) f)) (and_then o (λ s. collect (items_of s) g))
loose-in-each None f g h = tt
loose-in-each (Some s) f g h = collect-loose (items_of s) f g h

loose-where : (o : Option Value) (x y : Option (List Value)) → (as_truth o ≡ true → Loosely x y) →
    Loosely (where_true o (λ u. x)) (where_true o (λ u. y))
loose-where None x y h = λ v. refl
loose-where (Some (truth true)) x y h = h refl
loose-where (Some (truth false)) x y h = λ v. refl
loose-where (Some (number n)) x y h = λ v. refl
loose-where (Some (item t k)) x y h = λ v. refl
loose-where (Some (node k vs)) x y h = λ v. refl

items-loose-behind : (gs : Gens) (env : Env) (k l : Env → Option (List Value)) → AtEach gs env (λ here. Loosely (k here) (l here)) →
    Loosely (items_under gs env k) (items_under gs env l)
items-loose-behind no_gens env k l h = h
items-loose-behind (over p d gs) env k l h = loose-of-each (members_in (domain_of d env)) _ _
    (each-of-map (members_in (domain_of d env)) _ _ (λ v. items-loose-behind gs (with_pat p v env) k l) h)
items-loose-behind (from p e gs) env k l h = loose-in-each (meaning e env) _ _
    (each-in-map (meaning e env) _ _ (λ v. items-loose-behind gs (with_pat p v env) k l) h)
items-loose-behind (cond e gs) env k l h = loose-where (meaning e env) _ _ (λ t. items-loose-behind gs env k l (h t))

-- ---- over lists with the same items

abbrev has_in : Option (List Value) → Value → Bool
has_in None v = false
has_in (Some ys) v = holds ys v

module _ (F : Value → Option (List Value)) where
  all-there : (xs : List Value) → is_some (collect xs F) ≡ list_all (λ x. is_some (F x)) xs
  all-there [] = refl
  all-there (x ∷ xs) = go (F x) (collect xs F) (all-there xs)
    where
      go : (o p : Option (List Value)) → is_some p ≡ list_all (λ x. is_some (F x)) xs →
          is_some (and_then o (λ xs. option_map (λ ys. xs ++ ys) p)) ≡ is_some o && list_all (λ x. is_some (F x)) xs
      go None p h = refl
      go (Some ys) None h = h
      go (Some ys) (Some zs) h = h

  any-has : (xs zs : List Value) → collect xs F ≡ Some zs → (v : Value) → holds zs v ≡ list_any (λ x. has_in (F x) v) xs
  any-has [] zs q v = ap (λ l. holds l v) (sym (let e : [] ≡ zs = cc in e))
  any-has (x ∷ xs) zs q v = go (F x) refl (collect xs F) refl q (λ us e. any-has xs us e v)
    where
      go : (o : Option (List Value)) → F x ≡ o → (p : Option (List Value)) → collect xs F ≡ p →
          and_then o (λ xs. option_map (λ ys. xs ++ ys) p) ≡ Some zs →
          ((us : List Value) → collect xs F ≡ Some us → holds us v ≡ list_any (λ x. has_in (F x) v) xs) →
          holds zs v ≡ has_in o v || list_any (λ x. has_in (F x) v) xs
      go None a p b q h = cc
      go (Some ys) a None b q h = cc
      go (Some ys) a (Some us) b q h = ap (λ l. holds l v) (sym (let e : ys ++ us ≡ zs = cc in e)) ∙ holds-append ys us v
          ∙ ap (λ z. holds ys v || z) (h us b)

  shared-loose : (xs ys : List Value) → ((v : Value) → holds xs v ≡ holds ys v) → Loosely (collect xs F) (collect ys F)
  shared-loose xs ys s = go (collect xs F) refl (collect ys F) refl
    where
      there : is_some (collect xs F) ≡ is_some (collect ys F)
      there = all-there xs ∙ all-shared (λ x. is_some (F x)) xs ys s ∙ sym (all-there ys)

      go : (o : Option (List Value)) → collect xs F ≡ o → (p : Option (List Value)) → collect ys F ≡ p → Loosely o p
      go None a None b = tt
      go None a (Some us) b = no (sym (ap is_some a) ∙ there ∙ ap is_some b)
      go (Some zs) a None b = no (sym (ap is_some b) ∙ sym there ∙ ap is_some a)
      go (Some zs) a (Some us) b = λ v. any-has xs zs a v ∙ any-shared (λ x. has_in (F x) v) xs ys s ∙ sym (any-has ys us b v)

each-of-held : (xs : List Value) (Q : Value → Type 0) → Each xs Q → (v : Value) → holds xs v ≡ true → Q v
each-of-held [] Q e v h = no h
each-of-held (x ∷ xs) Q e v h = go (same x v) refl (λ k. each-of-held xs Q e.1 v k) h
  where
    go : (b : Bool) → same x v ≡ b → (holds xs v ≡ true → Q v) → b || holds xs v ≡ true → Q v
    go true s rest h = subst Q (same-equal x v s) e.0
    go false s rest h = rest h

held-each : (xs : List Value) (Q : Value → Type 0) → ((v : Value) → holds xs v ≡ true → Q v) → Each xs Q
held-each [] Q f = tt
held-each (x ∷ xs) Q f = (
  f x (ap (λ b. b || holds xs x) (same-itself x)),
  held-each xs Q (λ v h. f v (ap (λ b. same x v || b) h ∙ or-yes (same x v))),
)

-- ---- a generator over a set made of a term

module _ (p : Pat) (t : Ex) (hs : Gens) (e : Ex) where
  abbrev K : Env → Option (List Value)
  K here = option_map (λ v. v ∷ []) (meaning e here)

  abbrev F : Env → Value → Option (List Value)
  F here v = items_under hs (with_pat p v here) K

  shared : (l : List Value) (v : Value) → holds (to_list (of_list (sorted_once l))) v ≡ holds l v
  shared l v = ap (λ z. holds z v) (to_list-of_list (sorted_once l)) ∙ holds-sorted_once l v

  source-loose : (here : Env) → Loosely (items_under (from p (fun1 false Fun.ToSet t) hs) here K) (items_under (from p t hs) here K)
  source-loose here = go (meaning t here)
    where
      go : (o : Option Value) → Loosely (and_then (value_of_node (word Fun.ToSet) (o ∷ [])) (λ s. collect (items_of s) (F here)))
          (and_then o (λ s. collect (items_of s) (F here)))
      go None = tt
      go (Some w) = shared-loose (F here) (to_list (of_list (sorted_once (items_of w)))) (items_of w) (shared (items_of w))

  source-met : (here : Env) → MeetsGens (from p (fun1 false Fun.ToSet t) hs) here (λ here. Meets e here) →
      MeetsGens (from p t hs) here (λ here. Meets e here)
  source-met here m = (m.0.0, go (meaning t here) m.1)
    where
      Q : Value → Type 0
      Q v = MeetsGens hs (with_pat p v here) (λ here. Meets e here)

      go : (o : Option Value) → EachIn (value_of_node (word Fun.ToSet) (o ∷ [])) Q → EachIn o Q
      go None n = tt
      go (Some w) n = held-each (items_of w) Q (λ v h. each-of-held (to_list (of_list (sorted_once (items_of w)))) Q n v
          (shared (items_of w) v ∙ h))

pub at-all : (gs : Gens) (env : Env) (P : Env → Type 0) → ((here : Env) → P here) → AtEach gs env P
at-all no_gens env P f = f env
at-all (over p d gs) env P f = go (members_in (domain_of d env)) (λ v. at-all gs (with_pat p v env) P f)
  where
    go : (o : Option (List Value)) → ((v : Value) → AtEach gs (with_pat p v env) P) → EachOf o (λ v. AtEach gs (with_pat p v env) P)
    go None each = tt
    go (Some vs) each = each-any vs _ each
at-all (from p e gs) env P f = each-in-any (meaning e env) _ (λ v. at-all gs (with_pat p v env) P f)
at-all (cond e gs) env P f = λ t. at-all gs env P f

loose-keeps : (m : Bool) (w : Fun) → forgets_repeats m w ≡ true → (e : Ex) (gs : Gens) (p : Pat) (t : Ex) (hs : Gens) (env : Env) →
    Keeps (fun1 m w (comp_ex e (append_gens gs (from p (fun1 false Fun.ToSet t) hs))))
    (fun1 m w (comp_ex e (append_gens gs (from p t hs)))) env
loose-keeps m w h e gs p t hs env k = (
  word-loose m w h (items_under (append_gens gs (from p (fun1 false Fun.ToSet t) hs)) env (K p t hs e))
      (items_under (append_gens gs (from p t hs)) env (K p t hs e))
      (subst (λ z. Loosely z (items_under (append_gens gs (from p t hs)) env (K p t hs e)))
      (sym (items-append env.positions env.types env.cells gs (from p (fun1 false Fun.ToSet t) hs) env.vals (K p t hs e)))
      (subst (λ z. Loosely (items_under gs env (λ here. items_under (from p (fun1 false Fun.ToSet t) hs) here (K p t hs e))) z)
      (sym (items-append env.positions env.types env.cells gs (from p t hs) env.vals (K p t hs e)))
      (items-loose-behind gs env _ _ (at-all gs env _ (λ here. source-loose p t hs e here))))),
  (
    meets-together gs (from p t hs) env (λ here. Meets e here)
        (meets-gens-join gs env (λ here. Unit {0}) (λ here. MeetsGens (from p (fun1 false Fun.ToSet t) hs) here (λ here. Meets e here))
        (λ here. MeetsGens (from p t hs) here (λ here. Meets e here)) (λ here u n. source-met p t hs e here n)
        (at-all gs env (λ here. Unit {0}) (λ here. tt))
        (meets-apart gs (from p (fun1 false Fun.ToSet t) hs) env (λ here. Meets e here) k.0)),
    tt,
  ),
)

-- ---- the rule

pub seen_loosely-keeps : (e f : Ex) → seen_loosely e ≡ Some f → (env : Env) → Keeps e f env
seen_loosely-keeps (fun1 m w (comp_ex e gs)) f q env = go (forgets_repeats m w) refl q
  where
    made : (t : Opened) → at_first_open gs ≡ Some t → forgets_repeats m w ≡ true → (after : Gens) → t.after ≡ after →
        option_map (λ hs. fun1 m w (comp_ex e (append_gens t.before hs))) (loose_source after) ≡ Some f →
        Keeps (fun1 m w (comp_ex e gs)) f env
    made t a h (from p (fun1 false Fun.ToSet u) hs) b q = subst (λ z. Keeps (fun1 m w (comp_ex e z)) f env)
        (sym (opened-are gs t a ∙ ap (append_gens t.before) b))
        (subst (λ z. Keeps (fun1 m w (comp_ex e (append_gens t.before (from p (fun1 false Fun.ToSet u) hs)))) z env)
        (let z : fun1 m w (comp_ex e (append_gens t.before (from p u hs))) ≡ f = cc in z)
        (loose-keeps m w h e t.before p u hs env))
    made t a h _ b q = cc

    opened : (o : Option Opened) → at_first_open gs ≡ o → forgets_repeats m w ≡ true →
        and_then o (λ t. option_map (λ hs. fun1 m w (comp_ex e (append_gens t.before hs))) (loose_source t.after)) ≡ Some f →
        Keeps (fun1 m w (comp_ex e gs)) f env
    opened None a h q = cc
    opened (Some t) a h q = made t a h t.after refl q

    go : (b : Bool) → forgets_repeats m w ≡ b → (if b then and_then (at_first_open gs) (λ t. option_map
        (λ hs. fun1 m w (comp_ex e (append_gens t.before hs))) (loose_source t.after)) else None) ≡ Some f →
        Keeps (fun1 m w (comp_ex e gs)) f env
    go true h q = opened (at_first_open gs) refl h q
    go false h q = cc
seen_loosely-keeps _ f q env = cc
