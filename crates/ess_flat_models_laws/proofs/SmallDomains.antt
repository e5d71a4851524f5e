-- Domains whose bounds stay small aren't large with cells in the place of names.
use Rattle.std.proofs.Common.{◌≡◌, refl, sym, ap, ◌∙◌, Bool, true, false, ◌&&◌, ◌||◌, not, List, [], ◌++◌, pos, Option, Some, None}
use Rattle.std.specs.List.{list_all}
use Rattle.ess_semantics.specs.declared.words.Op1.{Op1}
use Rattle.ess_semantics.specs.declared.words.Op2.{Op2}
use Rattle.ess_semantics.specs.Values.{Text}
use Rattle.ess_semantics.specs.Names.{look}
use Rattle.ess_semantics.specs.Trees.{binary, plain_node, Ex, Exs, number_ex, name_ex, no_exs, more_exs, ex1, ex2, Dom, bool_dom, int_dom}
use Rattle.ess_semantics.specs.Meaning.{Env, meaning}
use Rattle.ess_semantics.specs.Occurrences.{parts_of, parts_of_all, parts_of_dom}
use Rattle.ess_semantics.specs.Large.{is_big, is_large, any_large, is_large_dom}
use Rattle.ess_semantics.specs.SizeNumbers.{part_stays_small}
use Rattle.ess_semantics.specs.Plans.{Plan}
use Rattle.ess_semantics.specs.Models.{scalar_cell, cell_for, with_cells, all_with_cells}
use Rattle.ess_semantics.proofs.Tests.{and-left, and-right}
use Rattle.conjure_laws.proofs.Lists.{test-append}
use Rattle.ess_flat_laws.specs.Flat.{none_marked}
use Rattle.ess_flat_models_laws.specs.FlatSpecifications.{is_scalar_dom}
use Rattle.ess_flat_models_laws.specs.FlatModels.{dom_with_cells}
use Rattle.ess_flat_models_laws.proofs.Reckoned.{Reckoned, digits, of_name, of_cell, minus, bar, plus, less, times, AllReckoned, Held, reckoned-cells, bounds-reckoned}
use Rattle.ess_flat_models_laws.proofs.FlatNames.{no-yes}

not-either : (b c : Bool) → not b && c ≡ true → b ≡ false
not-either false c e = refl
not-either true c e = cc

module _ (g : Text → Option Bool) (Ps : List Plan) (env there : Env) (q : Held g Ps env there) where
  none : None ≡ Some false → ⊥
  none h = cc

  large-name : (a : Text) (o : Option (Bool × Text)) → meaning (cell_for a o) there ≡ look env.vals a →
      is_large (cell_for a o) there ≡ is_big (look env.vals a)
  large-name a None e = ap is_big e
  large-name a (Some c) e = ap (λ o. is_big o || false) e ∙ no-more (is_big (look env.vals a))
    where
      no-more : (b : Bool) → b || false ≡ b
      no-more true = refl
      no-more false = refl

  one-large : (o : Op1) (x : Ex) → meaning (with_cells Ps (ex1 false o x)) there ≡ meaning (ex1 false o x) env →
      is_large (with_cells Ps x) there ≡ is_large x env → is_large (with_cells Ps (ex1 false o x)) there ≡ is_large (ex1 false o x) env
  one-large o x m e =
      ap (λ o. is_big o || (is_large (with_cells Ps x) there || false)) m ∙ ap (λ b. is_big (meaning (ex1 false o x) env) || (b || false)) e

  two-large : (o : Op2) (x y : Ex) → meaning (with_cells Ps (ex2 false o x y)) there ≡ meaning (ex2 false o x y) env →
      is_large (with_cells Ps x) there ≡ is_large x env → is_large (with_cells Ps y) there ≡ is_large y env →
      is_large (with_cells Ps (ex2 false o x y)) there ≡ is_large (ex2 false o x y) env
  two-large o x y m e f =
      ap (λ o. is_big o || (is_large (with_cells Ps x) there || (is_large (with_cells Ps y) there || false))) m
      ∙ ap (λ b. is_big (meaning (ex2 false o x y) env) || (b || (is_large (with_cells Ps y) there || false))) e
      ∙ ap (λ b. is_big (meaning (ex2 false o x y) env) || (is_large x env || (b || false))) f

  -- Where cells hold what names are, a tree with cells is as large as the tree.
  reckoned-large : {e : Ex} → Reckoned g none_marked e → is_large (with_cells Ps e) there ≡ is_large e env
  reckoned-large digits = refl
  reckoned-large (of_name {a = a} h) = large-name a (scalar_cell Ps a) (q a h)
  reckoned-large (of_cell h) = absurd (none h)
  reckoned-large (minus {x = x} w) = one-large Op1.Minus x (reckoned-cells g Ps env there q (minus w)) (reckoned-large w)
  reckoned-large (bar {x = x} w) = one-large Op1.Bar x (reckoned-cells g Ps env there q (bar w)) (reckoned-large w)
  reckoned-large (plus {x = x} {y = y} w v) =
      two-large Op2.Plus x y (reckoned-cells g Ps env there q (plus w v)) (reckoned-large w) (reckoned-large v)
  reckoned-large (less {x = x} {y = y} w v) =
      two-large Op2.Minus x y (reckoned-cells g Ps env there q (less w v)) (reckoned-large w) (reckoned-large v)
  reckoned-large (times {x = x} {y = y} w v) =
      two-large Op2.Times x y (reckoned-cells g Ps env there q (times w v)) (reckoned-large w) (reckoned-large v)

  -- It is the first of its parts.
  first-part : (f : Ex → Bool) {e : Ex} → Reckoned g none_marked e → list_all f (parts_of e) ≡ true → f e ≡ true
  first-part f (digits {k = k}) h = and-left (f (number_ex k)) true h
  first-part f (of_name {a = a} n) h = and-left (f (name_ex a)) true h
  first-part f (of_cell n) h = absurd (none n)
  first-part f (minus {x = x} w) h = and-left (f (ex1 false Op1.Minus x)) (list_all f (parts_of x ++ [])) h
  first-part f (bar {x = x} w) h = and-left (f (ex1 false Op1.Bar x)) (list_all f (parts_of x ++ [])) h
  first-part f (plus {x = x} {y = y} w u) h = and-left (f (ex2 false Op2.Plus x y)) (list_all f (parts_of x ++ (parts_of y ++ []))) h
  first-part f (less {x = x} {y = y} w u) h = and-left (f (ex2 false Op2.Minus x y)) (list_all f (parts_of x ++ (parts_of y ++ []))) h
  first-part f (times {x = x} {y = y} w u) h = and-left (f (ex2 false Op2.Times x y)) (list_all f (parts_of x ++ (parts_of y ++ []))) h

  bounds-small : (es : Exs) → AllReckoned g es → list_all (λ e. part_stays_small e env) (parts_of_all es) ≡ true →
      any_large (all_with_cells Ps es) there ≡ false
  bounds-small no_exs w s = refl
  bounds-small (more_exs e es) w s =
      let f : Ex → Bool = λ e. part_stays_small e env in
      let a : Bool = list_all f (parts_of e) in
      let b : Bool = list_all f (parts_of_all es) in
      let t = sym (test-append f (parts_of e) (parts_of_all es)) ∙ s in
      ap (λ c. c || any_large (all_with_cells Ps es) there)
      (reckoned-large w.0
      ∙ not-either (is_large e env)
      (not (is_large (plain_node (binary Op2.Plus) (more_exs e (more_exs (number_ex (pos 1)) no_exs))) env))
      (first-part f w.0 (and-left a b t)))
      ∙ bounds-small es w.1 (and-right a b t)

  -- A domain with small bounds isn't large with cells in the place of names.
  pub dom-small : (d : Dom) → is_scalar_dom g d ≡ true → list_all (λ e. part_stays_small e env) (parts_of_dom d) ≡ true →
      is_large_dom (dom_with_cells Ps d) there ≡ false
  dom-small bool_dom h s = refl
  dom-small (int_dom rs es) h s = bounds-small es (bounds-reckoned g rs es h) s
  dom-small d h s = absurd (no-yes h)
