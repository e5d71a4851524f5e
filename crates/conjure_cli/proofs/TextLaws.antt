-- What the text of a file decides that is refined.
use Rattle.std.proofs.Common.{◌≡◌, refl, sym, ◌∙◌, subst, ℕ, ◌+◌, inl, inr, ◌⊎◌, List, length, take, arith, Option, Some, None}
use Rattle.std.specs.Prelude.{IfSome, IsSomeAnd}
use Rattle.std.specs.Option.{option_map}
use Rattle.ess_semantics.specs.Trees.{Stm}
use Rattle.ess_io.specs.Counts.{Rose}
use Rattle.ess_io.specs.Trees.{Tree, file_at, start_of_file}
use Rattle.ess_parse.specs.declared.refusal.ReadNo.{ReadNo}
use Rattle.ess_translate.specs.declared.refusal.Which.{Which}
use Rattle.ess_translate.specs.declared.refusal.TransNo.{TransNo}
use Rattle.ess_translate.specs.Answers.{IsEssence, IsNoEssence}
use Rattle.conjure_cli_laws.specs.ModelText.{IsModelOf}
use Rattle.conjure_modelling.specs.declared.refusal.ModelNo.{ModelNo}
use Rattle.conjure_modelling.specs.Modelled as modelled
use Rattle.conjure_modelling.specs.Modelled.{TakesList, IsModelled}
use Rattle.conjure_cli.specs.Seen.{FilesSeen, SinkSeen, limit, ReadGives}
use Rattle.conjure_cli.specs.Whole.{IsSmallWay, IsModelFor}
use Rattle.conjure_cli.specs.Ending.{status_of, IsReadable, IsUnreadable, CauseOf, NoFault, IsDecided, TextDecides}
use Rattle.conjure_cli.specs.Reasons.{read_status, refusal_status}
use Rattle.conjure_cli.specs.Judging.{IsTold}
use Rattle.conjure_cli.specs.Refining.{CauseTo}
use Rattle.conjure_cli.specs.Runs.{outcome_status}
use Rattle.conjure_cli.specs.declared.ending.Ending.{Ending}
use Rattle.conjure_cli.specs.declared.ending.Ending.TheVariants.{Done, Usage, Missing, Unreadable, TooLong, NotYet, Unwritable, OutputFailed, NoMemory}
use Rattle.conjure_cli.specs.declared.outcome.Outcome.{Outcome}
use Rattle.conjure_standing_laws.proofs.FlatTextsCome.{flat-texts-have-models}
use Rattle.conjure_cli.proofs.DecidedLaws.{good_essence}
use Rattle.conjure_cli.proofs.TakenLists.{list-not-taken}

-- what is read of a told tree
of_read : (tree : Option Tree) (file : List ℕ) (P Q : List ℕ → Type 0) → ReadGives tree file P → ((text : List ℕ) → P text → Q text)
    → IfSome tree (λ files. IfSome (start_of_file files file (limit + 1)) Q)
of_read None file P Q given all = tt
of_read (Some files) file P Q given all = read (start_of_file files file (limit + 1)) given
  where
    read : (o : Option (List ℕ)) → IsSomeAnd o P → IfSome o Q
    read None given = tt
    read (Some text) given = all text given

always : (tree : Option Tree) (file : List ℕ) (Q : List ℕ → Type 0) → ((text : List ℕ) → Q text) → IfSome tree (λ files. IfSome (start_of_file files file (limit + 1)) Q)
always None file Q all = tt
always (Some files) file Q all = read (start_of_file files file (limit + 1))
  where
    read : (o : Option (List ℕ)) → IfSome o Q
    read None = tt
    read (Some text) = all text

unread_absent : (tree : Option Tree) (file : List ℕ) (P : Type 0) (Q : List ℕ → Type 0) → IfSome tree (λ files. (file_at files file ≡ None) × P)
    → IfSome tree (λ files. IfSome (start_of_file files file (limit + 1)) Q)
unread_absent None file P Q absent = tt
unread_absent (Some files) file P Q absent = subst (λ held. IfSome (option_map (take (limit + 1)) held) Q) (sym absent.0) tt

-- ---- specifications

-- a text is at most one specification
one_essence : (text : List ℕ) (S T : List Stm) → IsEssence text S → IsEssence text T → S ≡ T
one_essence text S T s t = t.spells.only S s.spells.reads

told : (why : TransNo) → modelled.IsTold why → IsTold why
told TransNo.NoMemory h = h
told (TransNo.Read which why) h = tt
told (TransNo.Typing why) h = tt
told TransNo.HeaderBad h = tt
told (TransNo.InvalidParameter v) h = tt
told (TransNo.TooManyCells x k) h = tt
told (TransNo.Unsatisfied v) h = tt
told (TransNo.NotRepresented x) h = tt
told TransNo.Big h = tt

read_three_five : (why : ReadNo) → (read_status why ≡ 3) ⊎ (read_status why ≡ 5)
read_three_five (ReadNo.TooDeep p) = inr refl
read_three_five (ReadNo.BadByte p) = inl refl
read_three_five (ReadNo.WideNumber p) = inl refl
read_three_five (ReadNo.Unsupported p) = inl refl
read_three_five (ReadNo.Syntax p) = inl refl
read_three_five ReadNo.NoMemory = inl refl

-- the status where a text is no specification
three_five : (text : List ℕ) (why : TransNo) → IsNoEssence text why → modelled.IsTold why
    → (refusal_status why ≡ 3) ⊎ (refusal_status why ≡ 5)
three_five text (TransNo.Read Which.Essence why) bad is_told = read_three_five why
three_five text (TransNo.Read Which.Param why) bad is_told = absurd bad
three_five text (TransNo.Read Which.Solution why) bad is_told = absurd bad
three_five text (TransNo.Read Which.Model why) bad is_told = absurd bad
three_five text (TransNo.Typing why) bad is_told = inl refl
three_five text TransNo.NoMemory bad is_told = absurd is_told
three_five text TransNo.HeaderBad bad is_told = absurd bad
three_five text (TransNo.InvalidParameter v) bad is_told = absurd bad
three_five text (TransNo.TooManyCells x k) bad is_told = absurd bad
three_five text (TransNo.Unsatisfied v) bad is_told = absurd bad
three_five text (TransNo.NotRepresented x) bad is_told = absurd bad
three_five text TransNo.Big bad is_told = absurd bad

-- ---- what a text decides

-- of two ways, where the first isn't taken
second_way : {A B : Type 0} → (A → ⊥) → A ⊎ B → B
second_way none (inl a) = absurd (none a)
second_way none (inr b) = b

-- where the small way isn't taken, a model isn't that of a text of the small grammar
no_small_model : (list : Option (List ℕ)) (text model : List ℕ) → (IsSmallWay list text → ⊥) → (list ≡ None) × IsModelOf text model → ⊥
no_small_model None text model small h = small (h.1.0, h.1.1)
no_small_model (Some l) text model small h = let k : Some l ≡ None = h.0 in cc

-- so it is one of a specification
not_small : (list : Option (List ℕ)) (text model : List ℕ) → (IsSmallWay list text → ⊥) → IsModelFor list text model
    → IsModelled text list model
not_small list text model small is =
    (second_way {A = (list ≡ None) × IsModelOf text model} {B = (IsSmallWay list text → ⊥) × IsModelled text list model}
    (no_small_model list text model small) is).1

done_decides : (list : Option (List ℕ)) (status : ℕ) (text : List ℕ) → status ≡ 0 → IsReadable list text → IsDecided list status text
done_decides list status text is given = record {
  long = λ long. let short = given.0 in absurd (omega (arith, long, short));
  small = λ short small. inl is;
  refused = λ short small none. let m = not_small list text given.1.0 small given.1.1 in absurd (none (m.0, m.1));
  unlisted = λ short small S ess none.
      let m = not_small list text given.1.0 small given.1.1 in
      absurd (none (subst (λ T. TakesList T list) (one_essence text m.0 S m.1 ess) (m.2.o, m.2.options)));
  taken = λ short small S ess. inl is;
  has_model = λ short flat S ess list. inl is;
}

not_yet_decides : (list : Option (List ℕ)) (status : ℕ) (text : List ℕ) → status ≡ 3 → IsUnreadable list ModelNo.NotYet text
    → IsDecided list status text
not_yet_decides list status text is given = record {
  long = λ long. let short = given.0 in absurd (omega (arith, long, short));
  small = λ short small. absurd (given.1.0 small);
  refused = λ short small none. inl is;
  unlisted = λ short small S ess none. inl is;
  taken = λ short small S ess. inr (inl is);
  has_model = λ short flat S ess takes. absurd (flat-texts-have-models text list flat given.1.1);
}

item_decides : (list : Option (List ℕ)) (k status : ℕ) (text : List ℕ) → status ≡ 3 → IsUnreadable list (ModelNo.BadRepresentation k) text
    → IsDecided list status text
item_decides list k status text is given = record {
  long = λ long. let short = given.0 in absurd (omega (arith, long, short));
  small = λ short small. absurd (given.1.0 small);
  refused = λ short small none. inl is;
  unlisted = λ short small S ess none. inl is;
  taken = λ short small S ess. inr (inl is);
  has_model = λ short flat S ess takes.
      let bad = given.1.1 in
      absurd (list-not-taken bad.0 list k (subst (λ T. TakesList T list) (one_essence text S bad.0 ess bad.1) takes) bad.2);
}

refused_decides : (list : Option (List ℕ)) (why : TransNo) (status : ℕ) (text : List ℕ) → status ≡ refusal_status why
    → IsUnreadable list (ModelNo.Specification why) text → IsDecided list status text
refused_decides list why status text is given = record {
  long = λ long. let short = given.0 in absurd (omega (arith, long, short));
  small = λ short small. absurd (given.1.0 small);
  refused = λ short small none.
      elim (three_five text why given.1.1.0 given.1.1.1) [ inl h ↦ inl (is ∙ h) | inr h ↦ inr (inl (is ∙ h)) ];
  unlisted = λ short small S ess none. absurd (good_essence text S why ess (told why given.1.1.1) given.1.1.0);
  taken = λ short small S ess. absurd (good_essence text S why ess (told why given.1.1.1) given.1.1.0);
  has_model = λ short flat S ess takes. absurd (good_essence text S why ess (told why given.1.1.1) given.1.1.0);
}

long_decides : (list : Option (List ℕ)) (status : ℕ) (text : List ℕ) → status ≡ 5 → length text ≡ limit + 1 → IsDecided list status text
long_decides list status text is long = record {
  long = λ _. inl is;
  small = λ short small. absurd (omega (arith, long, short));
  refused = λ short small none. absurd (omega (arith, long, short));
  unlisted = λ short small S ess none. absurd (omega (arith, long, short));
  taken = λ short small S ess. absurd (omega (arith, long, short));
  has_model = λ short flat S ess takes. absurd (omega (arith, long, short));
}

six_decides_text : (list : Option (List ℕ)) (status : ℕ) (text : List ℕ) → status ≡ 6 → IsDecided list status text
six_decides_text list status text is = record {
  long = λ _. inr is;
  small = λ _ _. inr is;
  refused = λ _ _ _. inr (inr is);
  unlisted = λ _ _ _ _ _. inr is;
  taken = λ _ _ _ _. inr (inr is);
  has_model = λ _ _ _ _ _. inr is;
}

-- ---- what a run says

ending_decides : (ending : Ending) (status : ℕ) (list : Option (List ℕ)) (file : List ℕ) (before after : FilesSeen) (o o' : SinkSeen)
    → status ≡ status_of ending → CauseOf ending list file before after o o' → TextDecides status list file before after o o'
ending_decides Done status list file before after o o' is cause =
    of_read before.tree file (IsReadable list) (λ text. NoFault before after o o' → IsDecided list status text) cause
    (λ text given quiet. done_decides list status text is given)
ending_decides Usage status list file before after o o' is cause = absurd cause
ending_decides Missing status list file before after o o' is cause =
    unread_absent before.tree file (Rose before.faults after.faults → ⊥) (λ text. NoFault before after o o' → IsDecided list status text)
    cause.1
ending_decides Unreadable status list file before after o o' is cause =
    always before.tree file (λ text. NoFault before after o o' → IsDecided list status text) (λ text quiet. absurd (quiet.0 cause))
ending_decides TooLong status list file before after o o' is cause =
    of_read before.tree file (λ text. length text ≡ limit + 1) (λ text. NoFault before after o o' → IsDecided list status text) cause
    (λ text long quiet. long_decides list status text is long)
ending_decides NotYet status list file before after o o' is cause =
    of_read before.tree file (IsUnreadable list ModelNo.NotYet) (λ text. NoFault before after o o' → IsDecided list status text) cause
    (λ text given quiet. not_yet_decides list status text is given)
ending_decides Unwritable status list file before after o o' is cause =
    always before.tree file (λ text. NoFault before after o o' → IsDecided list status text) (λ text quiet. absurd (quiet.0 cause.0))
ending_decides OutputFailed status list file before after o o' is cause =
    always before.tree file (λ text. NoFault before after o o' → IsDecided list status text) (λ text quiet. absurd (quiet.1 cause.0))
ending_decides NoMemory status list file before after o o' is cause =
    always before.tree file (λ text. NoFault before after o o' → IsDecided list status text)
    (λ text quiet. six_decides_text list status text is)

-- the text decides
pub text_decides : (outcome : Outcome) (status : ℕ) (list : Option (List ℕ)) (file : List ℕ) (before after : FilesSeen) (o o' : SinkSeen)
    → status ≡ outcome_status outcome → CauseTo outcome list file before after o o' → TextDecides status list file before after o o'
text_decides (Outcome.Plain ending) status list file before after o o' is cause =
    ending_decides ending status list file before after o o' is cause
text_decides (Outcome.Judged v) status list file before after o o' is cause = absurd cause
text_decides (Outcome.Refused why) status list file before after o o' is cause =
    of_read before.tree file (IsUnreadable list (ModelNo.Specification why)) (λ text. NoFault before after o o'
    → IsDecided list status text) cause
    (λ text given quiet. refused_decides list why status text is given)
text_decides (Outcome.BadItem k) status list file before after o o' is cause =
    of_read before.tree file (IsUnreadable list (ModelNo.BadRepresentation k)) (λ text. NoFault before after o o'
    → IsDecided list status text) cause
    (λ text given quiet. item_decides list k status text is given)

-- want of memory decides as well
pub six_decides : (status : ℕ) (list : Option (List ℕ)) (file : List ℕ) (before after : FilesSeen) (o o' : SinkSeen) → status ≡ 6
    → TextDecides status list file before after o o'
six_decides status list file before after o o' is =
    always before.tree file (λ text. NoFault before after o o' → IsDecided list status text)
    (λ text quiet. six_decides_text list status text is)
