-- Trees whose parts have values, and refined trees, as records, so that the induction over trees doesn't open what is said of them.
use Rattle.std.proofs.Common.{◌≡◌, refl, ap, ℕ, ◌≤◌, Bool, true, false, ◌&&◌, List, [], ◌∷◌, pos, Some}
use Rattle.std.specs.Prelude.{IsTrue, is_some}
use Rattle.ess_semantics.specs.declared.words.Op1.{Op1}
use Rattle.ess_semantics.specs.declared.words.Op2.{Op2}
use Rattle.ess_semantics.specs.declared.words.Fun.{Fun}
use Rattle.ess_semantics.specs.Values.{Text, Value, number as number_value}
use Rattle.ess_semantics.specs.Refined.{is_refined, are_refined, are_refined_gens}
use Rattle.ess_semantics.specs.Trees.{Repr, name_pat, Ex, Exs, comp_ex, cell_ex, seen_ex, no_exs, more_exs, Gens, no_gens, over, from, cond, Dom, bool_dom, int_dom, both_ends, ex1, ex2, fun1}
use Rattle.ess_semantics.specs.Meaning.{Env, meaning, domain_of, members_in, with_pat}
use Rattle.ess_semantics.proofs.Tests.{and-left, and-right}
use Rattle.ess_rules_laws.specs.SlotListings.{slots_dom}
use Rattle.ess_rules_laws.specs.SourceRules.{list_of}
use Rattle.ess_values_along_laws.specs.Valued.{Valued, AllValued, UnderValued, DomValued}
use Rattle.ess_flat_laws.specs.Flat.{OneOp, TwoOp}
use Rattle.ess_seen_laws.specs.ess_bare_laws.Lean.{FoldWord}
use Rattle.ess_seen_laws.specs.Seen.{Combines, Compares, Counted}
use Rattle.ess_seen_laws.proofs.Counts.{counted-means, slots-each}
use Rattle.ess_seen_everywhere_laws.proofs.Operands.{item-there, range-there, over-there, of-any, where-there, list-refined, slots-refined}
use Rattle.ess_seen_everywhere_laws.proofs.ValuedOperators.{there, counted-valued, Items, ItemsThere, one-valued, pair-valued, chosen-valued, fold-valued, items-valued, size-valued, compared-valued, combined-valued}

-- ---- what is said

-- Each part of the expression has a value.
pub record Fine (e : Ex) (env : Env) : Type 0 where
  pub parts : Valued false e env

-- The same of operands.
pub record AllFine (es : Exs) (env : Env) : Type 0 where
  pub parts : AllValued false false es env

-- The same of a domain, whose members can be listed.
pub record DomFine (d : Dom) (env : Env) : Type 0 where
  pub listed : IsTrue (is_some (members_in (domain_of d env)))
  pub parts : DomValued d env

-- The same of a comprehension, whose items are there.
pub record ListFine (e : Ex) (gs : Gens) (env : Env) : Type 0 where
  pub parts : ItemsThere e gs env

-- The expression is refined.
pub record Refined (e : Ex) : Type 0 where
  pub is : is_refined e ≡ true

-- So are operands.
pub record AllRefined (es : Exs) : Type 0 where
  pub are : are_refined es ≡ true

-- And generators.
pub record GensRefined (gs : Gens) : Type 0 where
  pub are : are_refined_gens gs ≡ true

-- ---- what isn't refined

-- A view isn't refined.
pub view-unrefined : {p : Repr} {d : Dom} {ns : List Text} {js : Exs} → Refined (seen_ex p d ns js) → ⊥
view-unrefined h = let q : false ≡ true = h.is in never q
  where
    never : false ≡ true → ⊥
    never q = cc

-- `in` isn't.
pub member-unrefined : {x y : Ex} → Refined (ex2 true Op2.Member x y) → ⊥
member-unrefined h = let q : false ≡ true = h.is in never q
  where
    never : false ≡ true → ⊥
    never q = cc

-- A generator from a source isn't.
pub source-unrefined : {a : Text} {s : Ex} {gs : Gens} → GensRefined (from (name_pat a) s gs) → ⊥
source-unrefined h = let q : false ≡ true = h.are in never q
  where
    never : false ≡ true → ⊥
    never q = cc

-- ---- operators

-- An operator on one operand.
pub fine-one : {b m : Bool} {o : Op1} → OneOp b o m → (x : Ex) (env : Env) → Refined (ex1 b o x) → (Refined x → Fine x env) →
    Fine (ex1 b o x) env
fine-one o x env h f = record { parts = one-valued o x env h.is (λ i. let v = f (record { is = i }) in v.parts) }

-- On two scalars.
pub fine-two : {b m k : Bool} {o : Op2} → TwoOp b o m k → (x y : Ex) (env : Env) → Refined (ex2 b o x y) → (Refined x → Fine x env) →
    (Refined y → Fine y env) → Fine (ex2 b o x y) env
fine-two o x y env h f g = record {
  parts = pair-valued o x y env h.is (λ i. let v = f (record { is = i }) in v.parts) (λ i. let v = g (record { is = i }) in v.parts);
}

-- A number that a condition chooses.
pub fine-chosen : (x : Ex) (env : Env) → Refined (fun1 false Fun.ToInt x) → (Refined x → Fine x env) → Fine (fun1 false Fun.ToInt x) env
fine-chosen x env h f = record { parts = chosen-valued x env h.is (λ i. let v = f (record { is = i }) in v.parts) }

-- A fold of a comprehension.
pub fine-fold : {m : Bool} {w : Fun} → FoldWord m w → (e : Ex) (gs : Gens) (env : Env) → Refined (fun1 m w (comp_ex e gs)) →
    (Refined e → GensRefined gs → ListFine e gs env) → Fine (fun1 m w (comp_ex e gs)) env
fine-fold o e gs env h f = record {
  parts = fold-valued o e gs env h.is (λ i.
      let v = f (record { is = and-left (is_refined e) (are_refined_gens gs) i })
      (record { are = and-right (is_refined e) (are_refined_gens gs) i }) in v.parts);
}

-- Of items.
pub fine-items : {m : Bool} {w : Fun} → FoldWord m w → (es : Exs) (env : Env) → Refined (fun1 m w (list_of es)) →
    (AllRefined es → AllFine es env) → Fine (fun1 m w (list_of es)) env
fine-items o es env h f = record { parts = items-valued o es env h.is (λ i. let v = f (record { are = i }) in v.parts) }

-- The size of a set.
pub fine-size : (x : Ex) (env : Env) → Refined (ex1 false Op1.Bar x) → (Refined x → Fine x env) → Fine (ex1 false Op1.Bar x) env
fine-size x env h f = record { parts = size-valued x env h.is (λ i. let v = f (record { is = i }) in v.parts) }

-- Two sets that are compared.
pub fine-compared : {o : Op2} → Compares o → (x y : Ex) (env : Env) → Refined (ex2 true o x y) → (Refined x → Fine x env) →
    (Refined y → Fine y env) → Fine (ex2 true o x y) env
fine-compared o x y env h f g = record {
  parts = compared-valued o x y env h.is (λ i. let v = f (record { is = i }) in v.parts) (λ i. let v = g (record { is = i }) in v.parts);
}

-- A set that is made of two.
pub fine-combined : {o : Op2} → Combines o → (x y : Ex) (env : Env) → Refined (ex2 false o x y) → (Refined x → Fine x env) →
    (Refined y → Fine y env) → Fine (ex2 false o x y) env
fine-combined o x y env h f g = record {
  parts = combined-valued o x y env h.is (λ i. let v = f (record { is = i }) in v.parts) (λ i. let v = g (record { is = i }) in v.parts);
}

-- A number of slots.
pub fine-count : {e : Ex} {n : ℕ} → Counted e n → (env : Env) → Fine e env
fine-count c env = record { parts = counted-valued c env }

-- A cell of truth values.
pub fine-flag : (n : Text) (es : Exs) (env : Env) → Refined (cell_ex true n es) → (AllRefined es → AllFine es env) →
    Fine (cell_ex true n es) env
fine-flag n es env h f = let v = f (record { are = h.is }) in record { parts = (tt, v.parts) }

-- ---- operands

-- No operands.
pub none-fine : (env : Env) → AllFine no_exs env
none-fine env = record { parts = tt }

-- One more.
pub more-fine : (e : Ex) (es : Exs) (env : Env) → AllRefined (more_exs e es) → (Refined e → Fine e env) → (AllRefined es → AllFine es env) →
    AllFine (more_exs e es) env
more-fine e es env h f g =
    let v = f (record { is = and-left (is_refined e) (are_refined es) h.are }) in
    let w = g (record { are = and-right (is_refined e) (are_refined es) h.are }) in
    record { parts = (v.parts, w.parts) }

-- ---- bindings

-- An item behind no generators.
pub last-fine : (e : Ex) (env : Env) → Fine e env → ListFine e no_gens env
last-fine e env v = record { parts = (item-there (meaning e env) (there e env v.parts), v.parts) }

-- Behind a condition.
pub cond-fine : (c e : Ex) (gs : Gens) (env : Env) → GensRefined (cond c gs) → (Refined c → Fine c env) →
    (GensRefined gs → ListFine e gs env) → ListFine e (cond c gs) env
cond-fine c e gs env h f g =
    let v = f (record { is = and-left (is_refined c) (are_refined_gens gs) h.are }) in
    let w = g (record { are = and-right (is_refined c) (are_refined_gens gs) h.are }) in
    let t = w.parts in
    record { parts = (where-there (meaning c env) (Items e gs env) t.0, (v.parts, λ q. t.1)) }

-- Behind a generator over a domain whose members can be listed.
pub over-fine : (a : Text) (d : Dom) (e : Ex) (gs : Gens) (env : Env) → DomFine d env →
    ((v : Value) → ListFine e gs (with_pat (name_pat a) v env)) → ListFine e (over (name_pat a) d gs) env
over-fine a d e gs env b f =
    let t = over-there (members_in (domain_of d env)) (λ v. Items e gs (with_pat (name_pat a) v env))
    (λ v. UnderValued gs (with_pat (name_pat a) v env) (λ here. Valued false e here)) b.listed
    (of-any (members_in (domain_of d env)) (λ v. ItemsThere e gs (with_pat (name_pat a) v env)) (λ v. let w = f v in w.parts)) in
    record { parts = (t.0, (b.parts, t.1)) }

-- Behind one over slots.
pub slots-fine : (a : Text) {x : Ex} {n : ℕ} → Counted x n → (e : Ex) (gs : Gens) (env : Env) →
    ((i : ℕ) → 1 ≤ i → i ≤ n → ListFine e gs (with_pat (name_pat a) (number_value (pos i)) env)) →
    ListFine e (over (name_pat a) (slots_dom x) gs) env
slots-fine a {x} c e gs env f =
    let t = over-there (members_in (domain_of (slots_dom x) env)) (λ v. Items e gs (with_pat (name_pat a) v env))
    (λ v. UnderValued gs (with_pat (name_pat a) v env) (λ here. Valued false e here))
    (range-there (Some (number_value (pos 1))) (meaning x env) refl (ap is_some (counted-means c env)))
    (slots-each (λ v. ItemsThere e gs (with_pat (name_pat a) v env)) c env (λ i l u. let w = f i l u in w.parts)) in
    record { parts = (t.0, ((tt, (counted-valued c env, tt)), t.1)) }

-- The truth values.
pub truths-fine : (env : Env) → DomFine bool_dom env
truths-fine env = record { listed = refl; parts = tt }

-- Numbers between two bounds.
pub bounds-fine : (x y : Ex) (env : Env) → Fine x env → Fine y env → DomFine (int_dom (both_ends ∷ []) (more_exs x (more_exs y no_exs))) env
bounds-fine x y env v w = record {
  listed = range-there (meaning x env) (meaning y env) (there x env v.parts) (there y env w.parts);
  parts = (v.parts, (w.parts, tt));
}

-- What stands behind a generator over truth values is refined.
pub behind-truths : {a : Text} {gs : Gens} → GensRefined (over (name_pat a) bool_dom gs) → GensRefined gs
behind-truths h = record { are = h.are }

-- Behind one over a range too, and so are the bounds.
pub behind-range : {a : Text} (x y : Ex) (gs : Gens) →
    GensRefined (over (name_pat a) (int_dom (both_ends ∷ []) (more_exs x (more_exs y no_exs))) gs) → Refined x × Refined y × GensRefined gs
behind-range x y gs h =
    let q = and-left (is_refined x && (is_refined y && true)) (are_refined_gens gs) h.are in (
      record { is = and-left (is_refined x) (is_refined y && true) q },
      record { is = list-refined (is_refined y) (and-right (is_refined x) (is_refined y && true) q) },
      record { are = and-right (is_refined x && (is_refined y && true)) (are_refined_gens gs) h.are },
    )

-- And behind one over slots.
pub behind-slots : {a : Text} (x : Ex) (gs : Gens) → GensRefined (over (name_pat a) (slots_dom x) gs) → GensRefined gs
behind-slots x gs h = record { are = slots-refined (is_refined x) (are_refined_gens gs) h.are }
