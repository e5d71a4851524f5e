-- Laws of endings: their causes, and what follows from them.
use Rattle.std.proofs.Common.{◌≡◌, refl, sym, ap, ◌∙◌, subst, ℕ, ◌+◌, ◌≤◌, inl, inr, List, length, take, arith, Option, Some, None}
use Rattle.std.specs.Prelude.{IfSome, IsSomeAnd}
use Rattle.std.specs.Option.{option_map}
use Rattle.ess_io.specs.Counts.{Rose}
use Rattle.ess_io.specs.Trees.{Tree, file_at, start_of_file, with_file, LeavesPrefix, KeepsOthers}
use Rattle.ess_io.proofs.Written.{with_file-KeepsOthers, same-KeepsOthers, LeavesPrefix-KeepsOthers}
use Rattle.conjure_cli.specs.Seen.{FilesSeen, SinkSeen, limit, ReadGives, WasRead}
use Rattle.conjure_modelling.specs.declared.refusal.ModelNo.{ModelNo}
use Rattle.conjure_cli.specs.Whole.{IsModelFor}
use Rattle.conjure_cli.specs.Ending.{status_of, IsReadable, IsUnreadable, CauseOf, LeavesModel, LeavesFiles, IsRefusal, MissingIsFour}
use Rattle.conjure_cli.specs.declared.ending.Ending.{Ending}
use Rattle.conjure_cli.specs.declared.ending.Ending.TheVariants.{Done, Usage, Missing, Unreadable, TooLong, NotYet, Unwritable, OutputFailed, NoMemory}

-- ---- counts

-- a count that rises later has risen
pub rose_later : (a b c : ℕ) → a ≤ b → Rose b c → Rose a c
rose_later a b c le rose = elim rose [ inl more ↦ inl (omega arith) | inr last ↦ inr last ]

-- ---- what is read of a told tree

-- what holds of the text that was read
pub gives : (tree : Option Tree) (file text : List ℕ) (P : List ℕ → Type 0) → WasRead tree file text → P text → ReadGives tree file P
gives None file text P was p = tt
gives (Some files) file text P was p = subst (λ o. IsSomeAnd o P) (sym was) p

-- a file that was read is there
pub there : (tree : Option Tree) (file text : List ℕ) (before after : ℕ) → WasRead tree file text
    → IfSome tree (λ files. (file_at files file ≡ None) × (Rose before after → ⊥) → ⊥)
there None file text before after was = tt
there (Some files) file text before after was =
    λ absent. let h : None ≡ Some text = sym (ap (option_map (take (limit + 1))) absent.0) ∙ was in cc

-- ---- what follows from an ending

-- the status of an ending is its own
pub two_is_usage : (ending : Ending) → status_of ending ≡ 2 → ending ≡ Usage
two_is_usage Done is = absurd (omega (arith, is))
two_is_usage Usage is = refl
two_is_usage Missing is = absurd (omega (arith, is))
two_is_usage Unreadable is = absurd (omega (arith, is))
two_is_usage TooLong is = absurd (omega (arith, is))
two_is_usage NotYet is = absurd (omega (arith, is))
two_is_usage Unwritable is = absurd (omega (arith, is))
two_is_usage OutputFailed is = absurd (omega (arith, is))
two_is_usage NoMemory is = absurd (omega (arith, is))

-- all other files are left
leaves_others : (list : Option (List ℕ)) (file place : List ℕ) (before after : FilesSeen) (P : List ℕ → Type 0)
    → ((model : List ℕ) → P model → KeepsOthers before.tree after.tree place)
    → LeavesModel list file before after P → KeepsOthers before.tree after.tree place
leaves_others list file place before after P keeps left = told before.tree (λ _. refl) left
  where
    told : (tree : Option Tree) → (Unit {0} → before.tree ≡ tree)
        → ReadGives tree file (λ text. (model : List ℕ) × IsModelFor list text model × P model)
        → KeepsOthers before.tree after.tree place
    told None is left = subst (λ t. KeepsOthers t after.tree place) (sym (is tt)) tt
    told (Some files) is left = given (start_of_file files file (limit + 1)) left
      where
        given : (read : Option (List ℕ)) → IsSomeAnd read (λ text. (model : List ℕ) × IsModelFor list text model × P model)
            → KeepsOthers before.tree after.tree place
        given None left = absurd left
        given (Some text) left = keeps left.0 left.2

-- where the tree stays, and where a file is put in its place
pub kept : (place : List ℕ) (before after : FilesSeen) → after.tree ≡ before.tree → KeepsOthers before.tree after.tree place
kept place before after same = subst (λ t. KeepsOthers before.tree t place) (sym same) (same-KeepsOthers before.tree place)

pub put_there : (place : List ℕ) (before after : FilesSeen) (model : List ℕ) → after.tree ≡ with_file before.tree place model → KeepsOthers before.tree after.tree place
put_there place before after model wrote = subst (λ t. KeepsOthers before.tree t place) (sym wrote) (with_file-KeepsOthers before.tree place model)

pub others_kept : (ending : Ending) (list : Option (List ℕ)) (file place : List ℕ) (before after : FilesSeen)
    → LeavesFiles ending list file place before after → KeepsOthers before.tree after.tree place
others_kept Done list file place before after left =
    leaves_others list file place before after (λ model. after.tree ≡ with_file before.tree place model) (put_there place before after) left
others_kept OutputFailed list file place before after left =
    leaves_others list file place before after (λ model. after.tree ≡ with_file before.tree place model) (put_there place before after) left
others_kept Unwritable list file place before after left =
    leaves_others list file place before after (LeavesPrefix before.tree after.tree place)
    (LeavesPrefix-KeepsOthers before.tree after.tree place) left
others_kept NoMemory list file place before after left = elim left [
  | inl same ↦ kept place before after same
  | inr part ↦ leaves_others list file place before after (LeavesPrefix before.tree after.tree place)
      (LeavesPrefix-KeepsOthers before.tree after.tree place) part
]
others_kept Usage list file place before after left = kept place before after left
others_kept Missing list file place before after left = kept place before after left
others_kept Unreadable list file place before after left = kept place before after left
others_kept TooLong list file place before after left = kept place before after left
others_kept NotYet list file place before after left = kept place before after left

-- a refusal touches no file
pub refusal_keeps : (ending : Ending) (status : ℕ) (list : Option (List ℕ)) (file place : List ℕ) (before after : FilesSeen)
    → status ≡ status_of ending → IsRefusal status
    → LeavesFiles ending list file place before after → after.tree ≡ before.tree
refusal_keeps Done status list file place before after is refusal left =
    absurd (elim refusal [ inl h ↦ omega (arith, h, is) | inr h ↦ elim h [ inl k ↦ omega (arith, k, is) | inr k ↦ omega (arith, k, is) ] ])
refusal_keeps Usage status list file place before after is refusal left = left
refusal_keeps Missing status list file place before after is refusal left = left
refusal_keeps Unreadable status list file place before after is refusal left = left
refusal_keeps TooLong status list file place before after is refusal left = left
refusal_keeps NotYet status list file place before after is refusal left = left
refusal_keeps Unwritable status list file place before after is refusal left =
    absurd (elim refusal [ inl h ↦ omega (arith, h, is) | inr h ↦ elim h [ inl k ↦ omega (arith, k, is) | inr k ↦ omega (arith, k, is) ] ])
refusal_keeps OutputFailed status list file place before after is refusal left =
    absurd (elim refusal [ inl h ↦ omega (arith, h, is) | inr h ↦ elim h [ inl k ↦ omega (arith, k, is) | inr k ↦ omega (arith, k, is) ] ])
refusal_keeps NoMemory status list file place before after is refusal left =
    absurd (elim refusal [ inl h ↦ omega (arith, h, is) | inr h ↦ elim h [ inl k ↦ omega (arith, k, is) | inr k ↦ omega (arith, k, is) ] ])

-- a file of which something is read is in the tree
pub read_is_there : (tree : Option Tree) (file : List ℕ) (P : List ℕ → Type 0) → ReadGives tree file P
    → IfSome tree (λ files. file_at files file ≡ None → ⊥)
read_is_there None file P given = tt
read_is_there (Some files) file P given = λ absent. subst (λ held. IsSomeAnd (option_map (take (limit + 1)) held) P) absent given

pub not_absent : (status : ℕ) (file : List ℕ) (before after : FilesSeen) → IfSome before.tree (λ files. file_at files file ≡ None → ⊥)
    → MissingIsFour status file before after
not_absent status file before after there = told before.tree there
  where
    told : (tree : Option Tree) → IfSome tree (λ files. file_at files file ≡ None → ⊥)
        → IfSome tree (λ files. file_at files file ≡ None → (Rose before.faults after.faults → ⊥) → status ≡ 4)
    told None there = tt
    told (Some files) there = λ absent quiet. absurd (there absent)

always_four : (status : ℕ) (file : List ℕ) (before after : FilesSeen) → status ≡ 4 → MissingIsFour status file before after
always_four status file before after four = told before.tree
  where
    told : (tree : Option Tree) → IfSome tree (λ files. file_at files file ≡ None → (Rose before.faults after.faults → ⊥) → status ≡ 4)
    told None = tt
    told (Some files) = λ absent quiet. four

-- a missing file
pub missing_is_four : (ending : Ending) (status : ℕ) (list : Option (List ℕ)) (file : List ℕ) (before after : FilesSeen) (o o' : SinkSeen)
    → status ≡ status_of ending
    → CauseOf ending list file before after o o' → MissingIsFour status file before after
missing_is_four Done status list file before after o o' is cause =
    not_absent status file before after (read_is_there before.tree file (IsReadable list) cause)
missing_is_four Usage status list file before after o o' is cause = absurd cause
missing_is_four Missing status list file before after o o' is cause = always_four status file before after is
missing_is_four Unreadable status list file before after o o' is cause = always_four status file before after is
missing_is_four TooLong status list file before after o o' is cause =
    not_absent status file before after (read_is_there before.tree file (λ text. length text ≡ limit + 1) cause)
missing_is_four NotYet status list file before after o o' is cause =
    not_absent status file before after (read_is_there before.tree file (IsUnreadable list ModelNo.NotYet) cause)
missing_is_four Unwritable status list file before after o o' is cause = always_four status file before after is
missing_is_four OutputFailed status list file before after o o' is cause = always_four status file before after is
missing_is_four NoMemory status list file before after o o' is cause = told before.tree cause
  where
    told : (tree : Option Tree) → IfSome tree (λ files. (file_at files file ≡ None) × (Rose before.faults after.faults → ⊥) → ⊥)
        → IfSome tree (λ files. file_at files file ≡ None → (Rose before.faults after.faults → ⊥) → status ≡ 4)
    told None refused = tt
    told (Some files) refused = λ absent quiet. absurd (refused (absent, quiet))
