-- The channels of finds, as a loop goes over statements.
use Rattle.std.proofs.Common.{◌≡◌, refl, sym, ap, ◌∙◌, ℕ, ◌+◌, ◌<◌, true, List, [], ◌∷◌, ◌++◌, length, map, filter, drop, get_or, append_assoc, Option, Some, None}
use Rattle.std.proofs.lemmas.List.{drop_more}
use Rattle.ess_semantics.specs.declared.words.Op2.{Op2}
use Rattle.ess_semantics.specs.Values.{Text}
use Rattle.ess_semantics.specs.Trees as pure
use Rattle.ess_semantics.specs.Trees.{Ex, ex2, given, given_enum, let_ex, let_dom, let_enum, let_unnamed, needs, find, such_that, minimise, maximise}
use Rattle.ess_semantics.specs.Solutions.{finds, find_of}
use Rattle.ess_semantics.specs.Plans.{Plan, is_plan_of}
use Rattle.ess_core.specs.StatementViews.{pure_stm}
use Rattle.ess_core.specs.declared.statements.Stm.{Stm}
use Rattle.conjure_model_laws.specs.Shown.{Shows}
use Rattle.conjure_model_laws.specs.IsBuiltFrom.{channel_trees}
use Rattle.ess_model_finds.specs.Finds.{found_in, view_of, views_of, equal_first, channels_of}

map-two : {A B C : Type 0} (f : B → C) (g : A → B) (xs : List A) → map (λ x. f (g x)) xs ≡ map f (map g xs)
map-two f g [] = refl
map-two f g (x ∷ xs) = ap (λ l. f (g x) ∷ l) (map-two f g xs)

-- The channels of plans say that the first of their views and each other one are equal.
pub channels-equal : (sh : Shows) (Qs : List Plan) → channel_trees sh Qs ≡ equal_first (map (view_of sh) Qs)
channels-equal sh [] = refl
channels-equal sh (P ∷ Qs) = map-two (ex2 true Op2.Eq (view_of sh P)) (view_of sh) Qs

has_found : (s : pure.Stm) (x : Text) → Some x ≡ found_in s → find_of s ≡ x ∷ []
has_found (find y d) x h = cc
has_found s x h = cc

has_not : (s : pure.Stm) → None ≡ found_in s → find_of s ≡ []
has_not (find y d) h = cc
has_not s h = refl

append-none : {A : Type 0} (r : List A) → r ++ [] ≡ r
append-none [] = refl
append-none (x ∷ r) = ap (λ l. x ∷ l) (append-none r)

module _ (sh : Shows) (Ps : List Plan) where
  -- The channels of some finds, and of others behind them.
  channels-behind : (xs ys : List Text) → channels_of sh Ps (xs ++ ys) ≡ channels_of sh Ps xs ++ channels_of sh Ps ys
  channels-behind [] ys = refl
  channels-behind (x ∷ xs) ys =
      let own = channel_trees sh (filter (is_plan_of x) Ps) in
      ap (λ l. own ++ l) (channels-behind xs ys) ∙ sym (append_assoc own (channels_of sh Ps xs) (channels_of sh Ps ys))

  -- A find adds its channels.
  pub found_adds : (s : pure.Stm) (x : Text) (old new : List Ex) → Some x ≡ found_in s → new ≡ old ++ equal_first (views_of sh Ps x)
      → new ≡ old ++ channels_of sh Ps (find_of s)
  found_adds s x old new q n =
      n ∙ ap (λ l. old ++ l) (sym (ap (channels_of sh Ps) (has_found s x q)
      ∙ append-none (channel_trees sh (filter (is_plan_of x) Ps)) ∙ channels-equal sh (filter (is_plan_of x) Ps)))

  -- Another statement adds none.
  pub none_adds : (s : pure.Stm) (old : List Ex) → None ≡ found_in s → old ≡ old ++ channels_of sh Ps (find_of s)
  none_adds s old q = sym (ap (λ l. old ++ channels_of sh Ps l) (has_not s q) ∙ append-none old)

  -- From one turn to the next.
  pub one_more : (ss : List Stm) (i : ℕ) (s : Stm) (old new all : List Ex) → i < length ss → s ≡ get_or ss i s
      → new ≡ old ++ channels_of sh Ps (find_of (pure_stm s))
      → old ++ channels_of sh Ps (finds (map pure_stm (drop i ss))) ≡ all
      → new ++ channels_of sh Ps (finds (map pure_stm (drop (i + 1) ss))) ≡ all
  one_more ss i s old new all lt is n h =
      let own = find_of (pure_stm s) in
      let rest = finds (map pure_stm (drop (i + 1) ss)) in
      let e : drop i ss ≡ s ∷ drop (i + 1) ss = drop_more ss i s lt ∙ ap (λ q. q ∷ drop (i + 1) ss) (sym is) in
      ap (λ l. l ++ channels_of sh Ps rest) n ∙ append_assoc old (channels_of sh Ps own) (channels_of sh Ps rest)
      ∙ ap (λ l. old ++ l) (sym (channels-behind own rest))
      ∙ sym (ap (λ l. old ++ channels_of sh Ps (finds (map pure_stm l))) e) ∙ h
