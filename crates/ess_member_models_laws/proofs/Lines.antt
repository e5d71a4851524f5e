-- The declared line of a table of truth values, and members that are numbers.
use Rattle.std.proofs.Common.{◌≡◌, refl, sym, ap, ◌∙◌, Bool, true, false, if◌then◌else◌, List, [], ◌∷◌, map, length, inl, inr, ◌⊎◌, Some}
use Rattle.std.specs.List.{list_all}
use Rattle.ess_semantics.specs.Values.{Text, Value, number, truth, item, node}
use Rattle.ess_semantics.specs.Order.{same_text}
use Rattle.ess_semantics.specs.Domains.{integers, Span}
use Rattle.ess_semantics.specs.Membership.{member}
use Rattle.ess_semantics.specs.Contexts.{Each}
use Rattle.ess_semantics.specs.DeclaredTables.{TableDecl}
use Rattle.ess_semantics.specs.Meaning.{is_bool_dom}
use Rattle.ess_semantics.specs.ModelMeaning.{declaration_of}
use Rattle.ess_semantics.proofs.Tests.{and-left, and-right}
use Rattle.ess_semantics.proofs.Texts.{same_text-itself}
use Rattle.conjure_laws.specs.Members.{In}
use Rattle.ess_member_rules_laws.specs.WrittenForms.{IsNumber}

-- Members of a domain of numbers are numbers.
pub each-number : (ss : List Span) (vs : List Value) → list_all (member (integers ss)) vs ≡ true → Each vs IsNumber
each-number ss [] h = tt
each-number ss (v ∷ vs) h = (
  one v (and-left (member (integers ss) v) (list_all (member (integers ss)) vs) h),
  each-number ss vs (and-right (member (integers ss) v) (list_all (member (integers ss)) vs) h),
)
  where
    one : (v : Value) → member (integers ss) v ≡ true → IsNumber v
    one (number k) h = (k, refl)
    one (truth b) h = cc
    one (item t k) h = cc
    one (node k vs) h = cc

-- A declared table of truth values over one axis.
pub record IsLine (ds : List TableDecl) (n : Text) : Type 0 where
  pub line : TableDecl
  pub declared : declaration_of ds n ≡ Some line
  pub one_axis : length line.axes ≡ 1
  pub bits : is_bool_dom line.cell ≡ true

pub found-line : (ds : List TableDecl) (n : Text) → Each ds (λ d. (length d.axes ≡ 1) × (is_bool_dom d.cell ≡ true)) →
    In n (map (λ d. d.name) ds) → IsLine ds n
found-line [] n h i = absurd i
found-line (d ∷ ds) n h i = go (same_text d.name n) refl i (found-line ds n h.1)
  where
    go : (b : Bool) → same_text d.name n ≡ b → (n ≡ d.name) ⊎ In n (map (λ d. d.name) ds) →
        (In n (map (λ d. d.name) ds) → IsLine ds n) → IsLine (d ∷ ds) n
    go true q i f = record {
      line = d;
      declared = ap (λ b. if b then Some d else declaration_of ds n) q;
      one_axis = h.0.0;
      bits = h.0.1;
    }
    go false q (inl e) f = let z : false ≡ true = sym q ∙ ap (λ w. same_text w n) (sym e) ∙ same_text-itself n in cc
    go false q (inr i) f = let r = f i in record {
      line = r.line;
      declared = ap (λ b. if b then Some d else declaration_of ds n) q ∙ r.declared;
      one_axis = r.one_axis;
      bits = r.bits;
    }
