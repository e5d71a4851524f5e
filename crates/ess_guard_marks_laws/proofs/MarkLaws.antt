-- Guarded, a covered tree has the right marks still.
use Rattle.std.proofs.Common.{true, false, Bool, []}
use Rattle.ess_semantics.specs.Values.{Text}
use Rattle.ess_semantics.specs.Names.{Names}
use Rattle.ess_semantics.specs.Trees.{Ex}
use Rattle.ess_semantics.specs.Types.{Ty}
use Rattle.ess_guard_laws.specs.Guard.{there, make_total, make_natural, has_value, make_total_term}
use Rattle.ess_guard_laws.specs.Covered.{Covered}
use Rattle.ess_guard_types_laws.specs.HasTypes.{HasTypes}
use Rattle.ess_guard_types_laws.specs.Laws.{GuardedKeepsTypes}
use Rattle.ess_refine_laws.specs.MarksStay.{HasMarks}
use Rattle.ess_guard_marks_laws.specs.Laws.{GuardingKeepsMarks}
use Rattle.ess_guard_marks_laws.proofs.FullMarks.{Full, marks-full, full-marks}
use Rattle.ess_guard_marks_laws.proofs.FullConditions.{all-of-full, summed-full}
use Rattle.ess_guard_marks_laws.proofs.TypedPlaces.{place-none}
use Rattle.ess_guard_marks_laws.proofs.MarksStay.{both}

answer-full : GuardedKeepsTypes → (x y : Text) (g : Names Ty) (b : Bool) (e : Ex) → HasTypes e g → HasMarks e g → Covered e →
    Full ((make_total_term x y b e).1) g
answer-full law x y g true e h m v =
    let r = both false x y (law.total x y) e [] g (place-none g) h (marks-full e g m) v in
    summed-full (there x y e) (make_total x y e) g (r.1 false) r.0
answer-full law x y g false e h m v =
    let r = both false x y (law.total x y) e [] g (place-none g) h (marks-full e g m) v in r.0

-- Guarding keeps marks, as it keeps types.
pub marks-stay : GuardedKeepsTypes → GuardingKeepsMarks
marks-stay law = record {
  total = λ x y g e h m v. let r = both false x y (law.total x y) e [] g (place-none g) h (marks-full e g m) v in
      let t = law.total x y g e h in full-marks (make_total x y e) g t.0 r.0;
  natural = λ x y g e h m v. let r = both true x y (law.natural x y) e [] g (place-none g) h (marks-full e g m) v in
      let t = law.natural x y g e h in full-marks (make_natural x y e) g t.0 r.0;
  there = λ x y g b e h m v. let r = both false x y (law.total x y) e [] g (place-none g) h (marks-full e g m) v in
      let t = law.there x y g b e h in full-marks (has_value x y e) g t.0 (all-of-full (there x y e) g (r.1 false));
  term = λ x y g b e h m v i. full-marks ((make_total_term x y b e).1) g (law.term x y g b e h i) (answer-full law x y g b e h m v);
}
