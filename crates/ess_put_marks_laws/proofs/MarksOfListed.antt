-- The item of an alternative for a bound name, behind the alternative's generators: marks stay.
use Rattle.std.proofs.Common.{◌≡◌, refl, sym, ap, ◌∙◌, subst, Bool, not, ◌∷◌, Option, Some, None}
use Rattle.std.specs.Prelude.{IsTrue, is_some}
use Rattle.ess_semantics.specs.Lists.{and_then}
use Rattle.ess_semantics.specs.Values.{Text}
use Rattle.ess_semantics.specs.Names.{Names}
use Rattle.ess_semantics.specs.Trees.{name_pat, Ex, comp_ex, Gens, no_gens, over, from, cond}
use Rattle.ess_semantics.specs.Types.{Ty, any_ty, or_any, type_of_dom, bind_types}
use Rattle.ess_semantics.specs.OperatorTypes.{member_ty}
use Rattle.ess_semantics.specs.Typing.{type_of, types_under, source_ty}
use Rattle.ess_semantics.specs.NamesAt.{names_behind}
use Rattle.ess_semantics.specs.Substitution.{substitute, substitute_gens, for_name}
use Rattle.ess_types_laws.proofs.ResolvedTypes.{behind-types}
use Rattle.ess_rules_laws.specs.Listings.{Alternative}
use Rattle.ess_rules_laws.specs.ListedSources.{laid_out, put_listed}
use Rattle.ess_rules_laws.specs.SpliceRules.{append_gens, NamesApart}
use Rattle.ess_refine_laws.specs.MarksStay.{HasMarks, GensHaveMarks}
use Rattle.ess_rules_types_laws.specs.PutTypes.{TablesAre, IsSteady}
use Rattle.ess_rules_types_laws.specs.TypesOfSources.{IsAlike, TablesFit, PutFits}
use Rattle.ess_rules_types_laws.proofs.PutListed.{laid-is, put-apart, put-free, put-tables, put-fits}
use Rattle.ess_put_marks_laws.proofs.MarksPut.{Marked, marks-put, gens-marks-put}

-- ---- generators one list behind the other

pub append-behind : (ks hs : Gens) (g : Names Ty) → names_behind (append_gens ks hs) g ≡ names_behind hs (names_behind ks g)
append-behind no_gens hs g = refl
append-behind (over p d ks) hs g = append-behind ks hs (bind_types p (type_of_dom d) g)
append-behind (from p e ks) hs g = append-behind ks hs (bind_types p (source_ty e g) g)
append-behind (cond e ks) hs g = append-behind ks hs g

pub append-marks : (ks hs : Gens) (g : Names Ty) → GensHaveMarks ks g → GensHaveMarks hs (names_behind ks g) →
    GensHaveMarks (append_gens ks hs) g
append-marks no_gens hs g h k = k
append-marks (over p d ks) hs g h k = (h.0, append-marks ks hs (bind_types p (type_of_dom d) g) h.1 k)
append-marks (from p e ks) hs g h k = (h.0, h.1, append-marks ks hs (bind_types p (source_ty e g) g) h.2 k)
append-marks (cond e ks) hs g h k = (h.0, append-marks ks hs g h.1 k)

pub before-marks : (ks hs : Gens) (g : Names Ty) → GensHaveMarks (append_gens ks hs) g →
    GensHaveMarks ks g × GensHaveMarks hs (names_behind ks g)
before-marks no_gens hs g h = (tt, h)
before-marks (over p d ks) hs g h = let r = before-marks ks hs (bind_types p (type_of_dom d) g) h.1 in ((h.0, r.0), r.1)
before-marks (from p e ks) hs g h = let r = before-marks ks hs (bind_types p (source_ty e g) g) h.2 in ((h.0, h.1, r.0), r.1)
before-marks (cond e ks) hs g h = let r = before-marks ks hs g h.1 in ((h.0, r.0), r.1)

some-is : (o : Option Ty) → IsTrue (is_some o) → (m : Ty) × (o ≡ Some m)
some-is None h = (any_ty, cc)
some-is (Some m) h = (m, refl)

-- The comprehension with the alternative has marks, where the alternative has.
pub listed-marks : (g : Names Ty) (y : Text) (t e : Ex) (hs : Gens) (a : Alternative) → PutFits g y t e hs a → HasMarks (laid_out a) g →
    HasMarks (comp_ex e (from (name_pat y) t hs)) g → HasMarks (put_listed y e hs a) g
listed-marks g y t e hs a p ma v = go p.3 p.4 p.5 p.6 p.7 p.8
  where
    r : Text → Bool
    r = p.0

    s : Text → Bool
    s = p.1

    w : Text → Bool
    w = p.2

    go : NamesApart r s (comp_ex e (from (name_pat y) (laid_out a) hs)) → TablesFit w r s y → TablesAre w (comp_ex e hs) →
        TablesAre w a.item → IsSteady (comp_ex e hs) ((y, source_ty t g) ∷ g) → IsAlike g t a → HasMarks (put_listed y e hs a) g
    go n f c i z l =
        let d = some-is (and_then (type_of t g) member_ty) v.0.0 in
        let m : Ty = d.0 in
        let x = laid-is (types_under a.gens g) (type_of a.item) m (l ∙ d.1) in
        let k : names_behind a.gens g ≡ x.0 = behind-types a.gens g x.0 x.1 in
        let o = d.1 in
        let fits = put-fits r s w y a.item n.0 n.1 i f g m a.gens n.2 (ap (type_of a.item) k ∙ x.2) in
        let start : Marked y a.item (λ c. not (r c)) (λ c. not (s c)) w (put-apart r s w y a.item n.0 n.1 i f)
        (put-free r s w y a.item n.0 n.1 i f) (put-tables r s w y a.item n.0 n.1 i f) ((y, m) ∷ g) (names_behind a.gens g) =
        record { fits = fits; marks = ma.1 } in
        let steady : IsSteady (comp_ex e hs) ((y, m) ∷ g) = subst (λ o. IsSteady (comp_ex e hs) ((y, or_any o) ∷ g)) o z in
        let gens : GensHaveMarks hs ((y, m) ∷ g) = subst (λ o. GensHaveMarks hs ((y, or_any o) ∷ g)) o v.0.2 in
        let body : HasMarks e (names_behind hs ((y, m) ∷ g)) = subst (λ o. HasMarks e (names_behind hs ((y, or_any o) ∷ g))) o v.1 in
        let put = gens-marks-put y a.item (λ c. not (r c)) (λ c. not (s c)) w (put-apart r s w y a.item n.0 n.1 i f)
        (put-free r s w y a.item n.0 n.1 i f) (put-tables r s w y a.item n.0 n.1 i f) hs ((y, m) ∷ g) (names_behind a.gens g) n.3 c.0
        steady.0 start gens in
        let item = marks-put y a.item (λ c. not (r c)) (λ c. not (s c)) w (put-apart r s w y a.item n.0 n.1 i f)
        (put-free r s w y a.item n.0 n.1 i f) (put-tables r s w y a.item n.0 n.1 i f) e (names_behind hs ((y, m) ∷ g))
        (names_behind (substitute_gens (for_name y a.item) hs) (names_behind a.gens g)) n.4 c.1 steady.1 put.1 body in (
          append-marks a.gens (substitute_gens (for_name y a.item) hs) g ma.0 put.0,
          subst (HasMarks (substitute (for_name y a.item) e)) (sym (append-behind a.gens (substitute_gens (for_name y a.item) hs) g)) item,
        )
