-- Refined trees have no views, so that any tables meet them; and they stay refined with numbers that are there everywhere.
use Rattle.std.proofs.Common.{◌≡◌, refl, ap, ◌∙◌, Bool, true, false, ◌&&◌, ◌||◌, if◌then◌else◌, List, Option, Some, None}
use Rattle.ess_semantics.specs.declared.words.Op1.{Op1}
use Rattle.ess_semantics.specs.declared.words.Op2.{Op2}
use Rattle.ess_semantics.specs.declared.words.Fun.{Fun}
use Rattle.ess_semantics.specs.Values.{Value}
use Rattle.ess_semantics.specs.Trees.{matrix_literal, is_truth_op, name_pat, Ex, Exs, number_ex, truth_ex, name_ex, node_ex, comp_ex, cell_ex, ex1, ex2, fun1, no_exs, more_exs, Gens, no_gens, over, cond, bool_dom, int_dom, name_dom}
use Rattle.ess_semantics.specs.Operators.{iff}
use Rattle.ess_semantics.specs.Kinds.{is_bounded}
use Rattle.ess_semantics.specs.Refined.{is_scalar_op, is_list_op, is_refined, are_refined, is_refined_list, are_refined_lists, are_refined_gens}
use Rattle.ess_semantics.specs.Meaning.{Env, meaning, domain_of, members_in, with_pat}
use Rattle.ess_semantics.specs.Contexts.{EachOf, guards}
use Rattle.ess_semantics.specs.Meets.{Meets, MeetsAll, MeetsGens}
use Rattle.ess_semantics.proofs.Tests.{and-left, and-right}
use Rattle.ess_rules_laws.proofs.Kept.{guarded-true}
use Rattle.ess_rules_laws.proofs.RuleAnswers.{each-any}
use Rattle.ess_refine_laws.specs.Everywhere.{is_nonzero, is_positive, nil_number, chosen, divisor, base, exponent, raised, everywhere, everywhere_list, everywhere_exs, everywhere_gens}

-- ---- tables meet them

-- One of the two.
either : {A : Type 0} (x y : Bool) → x || y ≡ true → (x ≡ true → A) → (y ≡ true → A) → A
either true y h f g = f refl
either false y h f g = g h

each-of-any : (o : Option (List Value)) (P : Value → Type 0) → ((v : Value) → P v) → EachOf o P
each-of-any None P f = tt
each-of-any (Some vs) P f = each-any vs P f

mutual
  -- Any tables meet a refined tree.
  pub refined-met : (e : Ex) → is_refined e ≡ true → (env : Env) → Meets e env
  refined-met (number_ex n) h env = tt
  refined-met (truth_ex b) h env = tt
  refined-met (name_ex a) h env = tt
  refined-met (cell_ex b n es) h env = operands-met es h false env
  refined-met (node_ex b op es) h env =
      either (is_scalar_op op && are_refined es) (is_list_op op && are_refined_lists es)
      (and-right (iff b (is_truth_op op)) ((is_scalar_op op && are_refined es) || (is_list_op op && are_refined_lists es)) h)
      (λ k. operands-met es (and-right (is_scalar_op op) (are_refined es) k) (guards op) env)
      (λ k. lists-met es (and-right (is_list_op op) (are_refined_lists es) k) (guards op) env)
  refined-met _ h env = cc

  operands-met : (es : Exs) → are_refined es ≡ true → (g : Bool) (env : Env) → MeetsAll g es env
  operands-met no_exs h g env = tt
  operands-met (more_exs e es) h g env = (
    refined-met e (and-left (is_refined e) (are_refined es) h) env,
    guarded-true g (meaning e env) (MeetsAll false es env) (operands-met es (and-right (is_refined e) (are_refined es) h) false env),
  )

  list-met : (l : Ex) → is_refined_list l ≡ true → (env : Env) → Meets l env
  list-met (comp_ex e gs) h env =
      gens-met gs (and-right (is_refined e) (are_refined_gens gs) h) e
      (λ here. refined-met e (and-left (is_refined e) (are_refined_gens gs) h) here) env
  list-met (node_ex false matrix_literal es) h env = operands-met es h false env
  list-met _ h env = cc

  lists-met : (es : Exs) → are_refined_lists es ≡ true → (g : Bool) (env : Env) → MeetsAll g es env
  lists-met no_exs h g env = tt
  lists-met (more_exs e es) h g env = (
    list-met e (and-left (is_refined_list e) (are_refined_lists es) h) env,
    guarded-true g (meaning e env) (MeetsAll false es env) (lists-met es (and-right (is_refined_list e)
        (are_refined_lists es) h) false env),
  )

  -- So do they generators of refined trees, and what stands under them.
  pub gens-met : (gs : Gens) → are_refined_gens gs ≡ true → (e : Ex) → ((here : Env) → Meets e here) → (env : Env) →
      MeetsGens gs env (λ here. Meets e here)
  gens-met no_gens h e f env = f env
  gens-met (over (name_pat a) bool_dom gs) h e f env =
      (tt, each-of-any (members_in (domain_of bool_dom env)) _ (λ v. gens-met gs h e f (with_pat (name_pat a) v env)))
  gens-met (over (name_pat a) (name_dom t) gs) h e f env =
      (tt, each-of-any (members_in (domain_of (name_dom t) env)) _ (λ v. gens-met gs h e f (with_pat (name_pat a) v env)))
  gens-met (over (name_pat a) (int_dom rs es) gs) h e f env =
      let k = and-left (is_bounded rs && are_refined es) (are_refined_gens gs) h in (
        operands-met es (and-right (is_bounded rs) (are_refined es) k) false env,
        each-of-any (members_in (domain_of (int_dom rs es) env)) _
            (λ v. gens-met gs (and-right (is_bounded rs && are_refined es) (are_refined_gens gs) h) e f (with_pat (name_pat a) v env)),
      )
  gens-met (cond c gs) h e f env = (
    refined-met c (and-left (is_refined c) (are_refined_gens gs) h) env,
    λ t. gens-met gs (and-right (is_refined c) (are_refined_gens gs) h) e f env,
  )
  gens-met _ h e f env = cc

-- ---- they stay refined

-- Whether an operator on one refined number is refined, on two, and on a list.
abbrev S1 : Bool → Bool
S1 x = (x && true) || false

abbrev S2 : Bool → Bool → Bool
S2 x y = (x && (y && true)) || false

abbrev L1 : Bool → Bool
L1 x = x && true

one : (x y : Bool) → (x ≡ true → y ≡ true) → S1 x ≡ true → S1 y ≡ true
one true y f h = ap S1 (f refl)
one false y f h = cc

two : (x y z w : Bool) → (x ≡ true → z ≡ true) → (y ≡ true → w ≡ true) → S2 x y ≡ true → S2 z w ≡ true
two true true z w f g h = ap (λ p. S2 p w) (f refl) ∙ ap (S2 true) (g refl)
two true false z w f g h = cc
two false y z w f g h = cc

folded : (x y : Bool) → (x ≡ true → y ≡ true) → L1 x ≡ true → L1 y ≡ true
folded true y f h = ap L1 (f refl)
folded false y f h = cc

divisor-refined : (b : Ex) → is_refined b ≡ true → is_refined (divisor b) ≡ true
divisor-refined b h = go (is_nonzero b)
  where
    go : (q : Bool) → is_refined (if q then b else ex2 false Op2.Plus b (chosen (ex2 true Op2.Eq b nil_number))) ≡ true
    go true = h
    go false = ap (λ x. S2 x (S1 (S2 x true))) h

base-refined : (a b : Ex) → is_refined a ≡ true → is_refined b ≡ true → is_refined (base a b) ≡ true
base-refined a b h k = go (is_nonzero a)
  where
    go : (q : Bool) → is_refined (if q then a
        else ex2 false Op2.Plus a (chosen (ex2 true Op2.And (ex2 true Op2.Eq a nil_number) (ex2 true Op2.Le b nil_number)))) ≡ true
    go true = h
    go false = ap (λ x. S2 x (S1 (S2 (S2 x true) (S2 (is_refined b) true)))) h ∙ ap (λ y. S2 true (S1 (S2 (S2 true true) (S2 y true)))) k

exponent-refined : (b : Ex) → is_refined b ≡ true → is_refined (exponent b) ≡ true
exponent-refined b k = ap (λ y. L1 (y && (true && true))) k

raised-refined : (a b : Ex) → is_refined a ≡ true → is_refined b ≡ true → is_refined (raised a b) ≡ true
raised-refined a b h k = go (is_positive b)
  where
    go : (q : Bool) → is_refined (if q then ex2 false Op2.Pow a b else ex2 false Op2.Pow (base a b) (exponent b)) ≡ true
    go true = ap (λ x. S2 x (is_refined b)) h ∙ ap (S2 true) k
    go false = ap (λ x. S2 x (is_refined (exponent b))) (base-refined a b h k) ∙ ap (S2 true) (exponent-refined b k)

both-true : {A : Type 0} (x y : Bool) → S2 x y ≡ true → (x ≡ true → y ≡ true → A) → A
both-true true true h f = f refl refl
both-true true false h f = cc
both-true false y h f = cc

picked-refined : (x g : Bool) → L1 (x && g) ≡ true → L1 (L1 (x && g) && (L1 (true && g) && true)) ≡ true
picked-refined true true h = refl
picked-refined true false h = cc
picked-refined false g h = cc

bounds-refined : (b x y g h : Bool) → (x ≡ true → y ≡ true) → (g ≡ true → h ≡ true) → (b && x) && g ≡ true → (b && y) && h ≡ true
bounds-refined true true y true h f k e = ap (λ z. z && h) (f refl) ∙ k refl
bounds-refined true true y false h f k e = cc
bounds-refined true false y g h f k e = cc
bounds-refined false x y g h f k e = cc

pairs : (x y g h : Bool) → (x ≡ true → y ≡ true) → (g ≡ true → h ≡ true) → x && g ≡ true → y && h ≡ true
pairs true y true h f k e = ap (λ z. z && h) (f refl) ∙ k refl
pairs true y false h f k e = cc
pairs false y g h f k e = cc

mutual
  -- A refined tree stays refined.
  pub everywhere-refined : (e : Ex) → is_refined e ≡ true → is_refined (everywhere e) ≡ true
  everywhere-refined (ex1 false Op1.Minus a) h = one (is_refined a) (is_refined (everywhere a)) (everywhere-refined a) h
  everywhere-refined (ex1 false Op1.Bar a) h = one (is_refined a) (is_refined (everywhere a)) (everywhere-refined a) h
  everywhere-refined (ex2 false Op2.Plus a b) h =
      two (is_refined a) (is_refined b) (is_refined (everywhere a)) (is_refined (everywhere b)) (everywhere-refined a)
      (everywhere-refined b) h
  everywhere-refined (ex2 false Op2.Minus a b) h =
      two (is_refined a) (is_refined b) (is_refined (everywhere a)) (is_refined (everywhere b)) (everywhere-refined a)
      (everywhere-refined b) h
  everywhere-refined (ex2 false Op2.Times a b) h =
      two (is_refined a) (is_refined b) (is_refined (everywhere a)) (is_refined (everywhere b)) (everywhere-refined a)
      (everywhere-refined b) h
  everywhere-refined (ex2 false Op2.Div a b) h =
      two (is_refined a) (is_refined b) (is_refined (everywhere a)) (is_refined (divisor (everywhere b))) (everywhere-refined a)
      (λ k. divisor-refined (everywhere b) (everywhere-refined b k)) h
  everywhere-refined (ex2 false Op2.Mod a b) h =
      two (is_refined a) (is_refined b) (is_refined (everywhere a)) (is_refined (divisor (everywhere b))) (everywhere-refined a)
      (λ k. divisor-refined (everywhere b) (everywhere-refined b k)) h
  everywhere-refined (ex2 false Op2.Pow a b) h =
      both-true (is_refined a) (is_refined b) h (λ p q. raised-refined (everywhere a) (everywhere b) (everywhere-refined a p)
      (everywhere-refined b q))
  everywhere-refined (fun1 false Fun.Sum l) h =
      folded (is_refined_list l) (is_refined_list (everywhere_list l)) (list-refined l) h
  everywhere-refined (fun1 false Fun.Product l) h =
      folded (is_refined_list l) (is_refined_list (everywhere_list l)) (list-refined l) h
  everywhere-refined (fun1 false Fun.Min (comp_ex e gs)) h =
      picked-refined (is_refined (everywhere e)) (are_refined_gens (everywhere_gens gs))
      (folded (is_refined_list (comp_ex e gs)) (is_refined_list (comp_ex (everywhere e) (everywhere_gens gs))) (list-refined
      (comp_ex e gs)) h)
  everywhere-refined (fun1 false Fun.Max (comp_ex e gs)) h =
      picked-refined (is_refined (everywhere e)) (are_refined_gens (everywhere_gens gs))
      (folded (is_refined_list (comp_ex e gs)) (is_refined_list (comp_ex (everywhere e) (everywhere_gens gs))) (list-refined
      (comp_ex e gs)) h)
  everywhere-refined (fun1 false Fun.Min (node_ex false matrix_literal no_exs)) h = refl
  everywhere-refined (fun1 false Fun.Max (node_ex false matrix_literal no_exs)) h = refl
  everywhere-refined (fun1 false Fun.Min (node_ex false matrix_literal (more_exs a es))) h =
      folded (are_refined (more_exs a es)) (are_refined (everywhere_exs (more_exs a es))) (operands-refined (more_exs a es)) h
  everywhere-refined (fun1 false Fun.Max (node_ex false matrix_literal (more_exs a es))) h =
      folded (are_refined (more_exs a es)) (are_refined (everywhere_exs (more_exs a es))) (operands-refined (more_exs a es)) h
  everywhere-refined (fun1 false Fun.Min l) h = h
  everywhere-refined (fun1 false Fun.Max l) h = h
  everywhere-refined e h = h

  list-refined : (l : Ex) → is_refined_list l ≡ true → is_refined_list (everywhere_list l) ≡ true
  list-refined (comp_ex e gs) h =
      pairs (is_refined e) (is_refined (everywhere e)) (are_refined_gens gs) (are_refined_gens (everywhere_gens gs)) (everywhere-refined e)
      (gens-refined gs) h
  list-refined (node_ex false matrix_literal es) h = operands-refined es h
  list-refined l h = h

  operands-refined : (es : Exs) → are_refined es ≡ true → are_refined (everywhere_exs es) ≡ true
  operands-refined no_exs h = refl
  operands-refined (more_exs e es) h =
      pairs (is_refined e) (is_refined (everywhere e)) (are_refined es) (are_refined (everywhere_exs es)) (everywhere-refined e)
      (operands-refined es) h

  pub gens-refined : (gs : Gens) → are_refined_gens gs ≡ true → are_refined_gens (everywhere_gens gs) ≡ true
  gens-refined no_gens h = refl
  gens-refined (over (name_pat a) bool_dom gs) h = gens-refined gs h
  gens-refined (over (name_pat a) (name_dom t) gs) h = gens-refined gs h
  gens-refined (over (name_pat a) (int_dom rs es) gs) h =
      bounds-refined (is_bounded rs) (are_refined es) (are_refined (everywhere_exs es)) (are_refined_gens gs)
      (are_refined_gens (everywhere_gens gs)) (operands-refined es) (gens-refined gs) h
  gens-refined (cond c gs) h =
      pairs (is_refined c) (is_refined c) (are_refined_gens gs) (are_refined_gens (everywhere_gens gs)) (λ k. k) (gens-refined gs) h
  gens-refined _ h = cc
