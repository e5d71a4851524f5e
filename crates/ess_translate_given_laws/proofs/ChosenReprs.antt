-- The representations of a header's givens and finds are those that its options choose, so its plans fit their domains.
use Rattle.std.proofs.Common.{◌≡◌, refl, sym, ap, ◌∙◌, subst, true, false, ◌&&◌, List, [], ◌∷◌, ◌++◌, Some, None, append_assoc}
use Rattle.std.specs.List.{list_all}
use Rattle.ess_semantics.specs.Lists.{or_default}
use Rattle.ess_semantics.specs.Values.{Text}
use Rattle.ess_semantics.specs.Order.{same_text}
use Rattle.ess_semantics.specs.Names.{Names, look, keys, all_distinct}
use Rattle.ess_semantics.specs.Trees.{Repr, Dom, Stm}
use Rattle.ess_semantics.specs.Domains.{Domain}
use Rattle.ess_semantics.specs.Kinds.{fits}
use Rattle.ess_semantics.specs.Choice.{default_repr}
use Rattle.ess_semantics.specs.Contexts.{Each}
use Rattle.ess_semantics.specs.Judgements.{fault, is_well_typed}
use Rattle.ess_semantics.specs.Meaning.{domain_of}
use Rattle.ess_semantics.specs.Assignments.{Assignment}
use Rattle.ess_semantics.specs.Parameters.{Param}
use Rattle.ess_semantics.specs.Plans.{Options, chosen_reprs, kept_names, plans}
use Rattle.ess_semantics.proofs.Tests.{and-left, and-right}
use Rattle.ess_semantics.proofs.Texts.{same_text-equal}
use Rattle.ess_repr_laws.specs.TypedDomains.{Typed}
use Rattle.ess_repr_laws.specs.Laws.{Fitting}
use Rattle.conjure_laws.specs.Premises.{here, PlanFits}
use Rattle.conjure_laws.specs.Fields.{HasFields, NameFits}
use Rattle.conjure_laws.proofs.Lists.{each-map, each-both, each-of-list}
use Rattle.conjure_laws.proofs.NamedTables.{look-middle}
use Rattle.conjure_laws.proofs.JudgedNames.{IsRight, judged-right}
use Rattle.conjure_laws.proofs.JudgedDistinct.{kept-distinct}
use Rattle.conjure_laws.proofs.WrittenFields.{written-fields}
use Rattle.conjure_laws.proofs.FittingPlans.{plans-fit}
use Rattle.ess_translate_header_laws.specs.Headers.{all_fit, are_reprs_of}
use Rattle.ess_translate_given_laws.specs.Ready.{Ready}

-- Of the first name: its representations fit, and the others are those of the other names.
record Front (x : Text) (d : Dom) (xs : Names Dom) (a : Text) (qs : List Repr) (rs : Names (List Repr)) : Type 0 where
  same : x ≡ a
  fit : list_all (λ r. fits r d) qs ≡ true
  rest : are_reprs_of xs rs ≡ true

front : (x : Text) (d : Dom) (xs : Names Dom) (a : Text) (qs : List Repr) (rs : Names (List Repr)) →
    are_reprs_of ((x, d) ∷ xs) ((a, qs) ∷ rs) ≡ true → Front x d xs a qs rs
front x d xs a qs rs h =
    let l = and-left (same_text x a && all_fit qs d) (are_reprs_of xs rs) h in record {
      same = same_text-equal x a (and-left (same_text x a) (all_fit qs d) l);
      fit = and-right (same_text x a) (all_fit qs d) l;
      rest = and-right (same_text x a && all_fit qs d) (are_reprs_of xs rs) h;
    }

-- Representations of names have these names.
pub names-of-reprs : (xs : Names Dom) (rs : Names (List Repr)) → are_reprs_of xs rs ≡ true → keys rs ≡ keys xs
names-of-reprs [] [] h = refl
names-of-reprs [] (r ∷ rs) h = cc
names-of-reprs (x ∷ xs) [] h = cc
names-of-reprs (x ∷ xs) (r ∷ rs) h =
    let f = front x.0 x.1 xs r.0 r.1 rs h in
    ap (λ a. a ∷ keys rs) (sym f.same) ∙ ap (λ l. x.0 ∷ l) (names-of-reprs xs rs f.rest)

-- The chosen representations fit the domain of the name.
abbrev ChosenFit : Options → Text × Dom → Type 0
ChosenFit o x = Each (chosen_reprs o x.0 x.1) (λ r. fits r x.1 ≡ true)

found : (o before : Options) (a : Text) (qs : List Repr) (rs : Options) → all_distinct (keys o) ≡ true →
    o ≡ before ++ ((a, qs) ∷ rs) → look o a ≡ Some qs
found o before a qs rs n e =
    ap (λ l. look l a) e ∙ look-middle before rs a qs (ap (λ l. all_distinct (keys l)) (sym e) ∙ n)

-- name by name, where the representations of the names that are left stand behind others
chosen-from : (xs : Names Dom) (o before rs : Options) → all_distinct (keys o) ≡ true → o ≡ before ++ rs → are_reprs_of xs rs ≡ true →
    Each xs (ChosenFit o)
chosen-from [] o before rs n e h = tt
chosen-from (x ∷ xs) o before [] n e h = cc
chosen-from (x ∷ xs) o before (r ∷ rs) n e h =
    let p = front x.0 x.1 xs r.0 r.1 rs h in
    let c : chosen_reprs o x.0 x.1 ≡ r.1 =
    ap (λ q. or_default q (default_repr x.1 ∷ [])) (ap (look o) p.same ∙ found o before r.0 r.1 rs n e) in (
      subst (λ l. Each l (λ q. fits q x.1 ≡ true)) (sym c) (each-of-list r.1 (λ q. fits q x.1) p.fit),
      chosen-from xs o (before ++ (r ∷ [])) rs n (e ∙ sym (append_assoc before (r ∷ []) rs)) p.rest,
    )

pub well-typed : (S : List Stm) → fault S ≡ None → is_well_typed S ≡ true
well-typed S e = ap (λ o. elim o [ None ↦ true | Some f ↦ false ]) e

-- The representations of a well typed specification fit.
pub chosen-fit : (S : List Stm) (o : Options) → is_well_typed S ≡ true → are_reprs_of (kept_names S) o ≡ true →
    Each (kept_names S) (ChosenFit o)
chosen-fit S o w h =
    chosen-from (kept_names S) o [] o (ap all_distinct (names-of-reprs (kept_names S) o h) ∙ kept-distinct S w) refl h

-- What is known of a name beside its representations.
abbrev Known : List Stm → Text × Dom → Type 0
Known S x =
    IsRight x × HasFields x.1 × ((p : Assignment) (e : Domain) → Param S p → domain_of x.1 (here S p) ≡ Some e → Typed e)

-- So each plan fits.
pub header-plans-fit : (S : List Stm) (o : Options) → fault S ≡ None → are_reprs_of (kept_names S) o ≡ true → Ready S →
    Each (plans S o) (PlanFits S)
header-plans-fit S o e h R =
    let w = well-typed S e in
    plans-fit S o (each-both (kept_names S) (ChosenFit o) (Known S) (λ x. NameFits S o x.0 x.1) one (chosen-fit S o w h)
    (each-both (kept_names S) IsRight
    (λ x. HasFields x.1 × ((p : Assignment) (e : Domain) → Param S p → domain_of x.1 (here S p) ≡ Some e → Typed e)) (Known S)
    (λ x r t. (r, t.0, t.1)) (judged-right S w)
    (each-both (kept_names S) (λ x. HasFields x.1)
    (λ x. (p : Assignment) (e : Domain) → Param S p → domain_of x.1 (here S p) ≡ Some e → Typed e) _ (λ x f t. (f, t))
    (written-fields S R.fields) R.typed)))
  where
    one : (x : Text × Dom) → ChosenFit o x → Known S x → NameFits S o x.0 x.1
    one x f k = record {
      fitting = each-map (chosen_reprs o x.0 x.1) (λ r. fits r x.1 ≡ true) (λ r. Fitting r x.1)
          (λ r g. record { well = k.0.0; known = k.0.1; fit = g })
          f;
      fields = k.1;
      typed = k.2;
    }
