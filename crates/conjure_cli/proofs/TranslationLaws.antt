-- Laws of what the texts of the files decide, where a parameter or cells are translated.
use Rattle.std.proofs.Common.{◌≡◌, refl, ◌∙◌, subst, ℕ, ◌+◌, ◌≤◌, inl, inr, ◌⊎◌, List, length, Option, Some, None}
use Rattle.std.specs.Prelude.{IfSome}
use Rattle.ess_semantics.specs.Names.{Names}
use Rattle.ess_semantics.specs.Trees.{Stm, Ex}
use Rattle.ess_semantics.specs.Tables.{Table}
use Rattle.ess_semantics.specs.Assignments.{Assignment}
use Rattle.ess_semantics.specs.ModelTrees.{Header, Model}
use Rattle.ess_semantics.specs.Plans.{given_tables}
use Rattle.ess_io.specs.Counts.{Rose}
use Rattle.ess_io.specs.Trees.{Tree, start_of_file}
use Rattle.ess_grammar.specs.ModelTexts.{IsModel}
use Rattle.ess_translate_header_laws.specs.Headers.{HasHeader}
use Rattle.ess_translate.specs.declared.refusal.Which.{Which}
use Rattle.ess_translate.specs.Texts.{Spells}
use Rattle.ess_translate_files.specs.ModelFiles.{IsNoModelFile}
use Rattle.ess_translate_files.specs.GivenFiles.{IsGiven, IsNotGiven}
use Rattle.ess_translate_solutions.specs.CellFiles.{IsSolved, IsNotSolved}
use Rattle.conjure_cli.specs.Seen.{FilesSeen, SinkSeen, limit, WasRead}
use Rattle.conjure_cli.specs.Ending.{NoFault}
use Rattle.conjure_cli.specs.Judging.{StopsLater}
use Rattle.conjure_cli.specs.Translating.{ModelRead, GivenRead, SolvedRead, Translates, CellsStop, SourceCause, TranslateCause}
use Rattle.conjure_cli.specs.TranslationDecided.{AreGoodSources, AreGoodCells, IsSolvable, AreCellsDecided}
use Rattle.conjure_cli.specs.TranslationDecided.{IsGivenDecided, IsSolvedDecided, TranslationDecides}
use Rattle.conjure_cli.specs.Runs.{outcome_status}
use Rattle.conjure_cli.specs.declared.ending.Ending.{Ending}
use Rattle.conjure_cli.specs.declared.outcome.Outcome.{Outcome}
use Rattle.conjure_cli.proofs.DecidedLaws.{one_text, no_stop}
use Rattle.conjure_cli.proofs.TranslationTexts.{one_header_of, one_model_of, one_parameter, one_tables, good_model, good_given, good_cells}

-- ---- good files stop nothing

module _ (tree : Tree) (m p model param : List ℕ) (H : Header) (E : Model) (F : List Stm) (a : Assignment) (q : Names Table)
    (is_m : start_of_file tree m (limit + 1) ≡ Some model) (is_p : start_of_file tree p (limit + 1) ≡ Some param)
    (short_m : length model ≤ limit) (short_p : length param ≤ limit) (good : AreGoodSources model param H E F a q) where
  -- the header and the model that were read
  read_header : (K : Header) (G : Model) → ModelRead (Some tree) m K G → K ≡ H
  read_header K G r = one_header_of model H K E G good.file
      (subst (λ t. HasHeader t K) (one_text tree m model r.0 is_m r.1.was) r.2.header)

  read_model : (K : Header) (G : Model) → ModelRead (Some tree) m K G → G ≡ E
  read_model K G r = one_model_of model H E G good.file (subst (λ t. Spells IsModel t G) (one_text tree m model r.0 is_m r.1.was) r.2.spells)

  -- what was read of the parameter
  read_given : (b : Assignment) (r : Names Table) → GivenRead (Some tree) p H E b r → (b ≡ a) × (r ≡ q)
  read_given b r g =
      let given : IsGiven H E param g.1 b r = subst (λ t. IsGiven H E t g.1 b r) (one_text tree p param g.0 is_p g.2.was) g.3 in
      let same : b ≡ a = one_parameter H.statements param F g.1 a b good.given.parameter given.parameter in (
        same,
        one_tables (given_tables H.statements H.reprs a) q r good.given.has.tables
            (subst (λ x. given_tables H.statements H.reprs x ≡ Some r) same given.has.tables),
      )

  -- why a run stops, but at the cells
  good_sources : (outcome : Outcome) (at : Which) (c : Option (List ℕ)) (before after : FilesSeen) → before.tree ≡ Some tree
      → (Rose before.faults after.faults → ⊥) → (outcome ≡ Outcome.Plain Ending.NoMemory → ⊥)
      → SourceCause at outcome m p c before after → CellsStop outcome c before after H E a q
  good_sources outcome Which.Model c before after told quiet room h =
      absurd (no_stop outcome tree m model before after IsNoModelFile told is_m short_m quiet room
      (λ why t k. good_model model H E why good.file t k) h)
  good_sources outcome Which.Param c before after told quiet room h =
      let read : ModelRead (Some tree) m h.0 h.1 = subst (λ t. ModelRead t m h.0 h.1) told h.2 in
      absurd (no_stop outcome tree p param before after (IsNotGiven H E) told is_p short_p quiet room
      (λ why t k. good_given H E param F a q why good.given good.small t k)
      (subst (λ G. StopsLater outcome p before after (IsNotGiven H G)) (read_model h.0 h.1 read)
      (subst (λ K. StopsLater outcome p before after (IsNotGiven K h.1)) (read_header h.0 h.1 read) h.3)))
  good_sources outcome Which.Solution c before after told quiet room h =
      let read : ModelRead (Some tree) m h.0 h.1 = subst (λ t. ModelRead t m h.0 h.1) told h.4 in
      let heads : h.0 ≡ H = read_header h.0 h.1 read in
      let models : h.1 ≡ E = read_model h.0 h.1 read in
      let given : GivenRead (Some tree) p H E h.2 h.3 = subst (λ G. GivenRead (Some tree) p H G h.2 h.3) models
      (subst (λ K. GivenRead (Some tree) p K h.1 h.2 h.3) heads (subst (λ t. GivenRead t p h.0 h.1 h.2 h.3) told h.5)) in
      subst (λ r. CellsStop outcome c before after H E a r) (read_given h.2 h.3 given).1
      (subst (λ b. CellsStop outcome c before after H E b h.3) (read_given h.2 h.3 given).0
      (subst (λ G. CellsStop outcome c before after H G h.2 h.3) models
      (subst (λ K. CellsStop outcome c before after K h.1 h.2 h.3) heads h.6)))
  good_sources outcome Which.Essence c before after told quiet room h = absurd h

  -- a parameter is translated, but for want of memory
  given_decides : (outcome : Outcome) (status : ℕ) (at : Which) (before after : FilesSeen) (o o' : SinkSeen) → before.tree ≡ Some tree
      → NoFault before after o o' → status ≡ outcome_status outcome → TranslateCause outcome at m p None before after o o'
      → (status ≡ 0) ⊎ (status ≡ 6)
  given_decides (Outcome.Plain Ending.Done) status at before after o o' told quiet is h = inl is
  given_decides (Outcome.Plain Ending.NoMemory) status at before after o o' told quiet is h = inr is
  given_decides (Outcome.Plain Ending.OutputFailed) status at before after o o' told quiet is h = absurd (quiet.1 h.2)
  given_decides (Outcome.Plain Ending.Unwritable) status at before after o o' told quiet is h = absurd (quiet.0 h.2)
  given_decides (Outcome.Plain Ending.Usage) status at before after o o' told quiet is h =
      absurd (good_sources (Outcome.Plain Ending.Usage) at None before after told quiet.0 (λ e. cc) h)
  given_decides (Outcome.Plain Ending.Missing) status at before after o o' told quiet is h =
      absurd (good_sources (Outcome.Plain Ending.Missing) at None before after told quiet.0 (λ e. cc) h)
  given_decides (Outcome.Plain Ending.Unreadable) status at before after o o' told quiet is h =
      absurd (good_sources (Outcome.Plain Ending.Unreadable) at None before after told quiet.0 (λ e. cc) h)
  given_decides (Outcome.Plain Ending.TooLong) status at before after o o' told quiet is h =
      absurd (good_sources (Outcome.Plain Ending.TooLong) at None before after told quiet.0 (λ e. cc) h)
  given_decides (Outcome.Plain Ending.NotYet) status at before after o o' told quiet is h =
      absurd (good_sources (Outcome.Plain Ending.NotYet) at None before after told quiet.0 (λ e. cc) h)
  given_decides (Outcome.Judged v) status at before after o o' told quiet is h =
      absurd (good_sources (Outcome.Judged v) at None before after told quiet.0 (λ e. cc) h)
  given_decides (Outcome.Refused why) status at before after o o' told quiet is h =
      absurd (good_sources (Outcome.Refused why) at None before after told quiet.0 (λ e. cc) h)
  given_decides (Outcome.BadItem k) status at before after o o' told quiet is h =
      absurd (good_sources (Outcome.BadItem k) at None before after told quiet.0 (λ e. cc) h)

  -- the cells
  module _ (c cells : List ℕ) (cs : Names Ex) (is_c : start_of_file tree c (limit + 1) ≡ Some cells) (short_c : length cells ≤ limit)
      (good_c : AreGoodCells E q cells cs) where
    -- a stop at good cells is a refusal that says that they stand for no solution
    cells_stop : (outcome : Outcome) (before after : FilesSeen) → before.tree ≡ Some tree → (Rose before.faults after.faults → ⊥)
        → (outcome ≡ Outcome.Plain Ending.NoMemory → ⊥) → CellsStop outcome (Some c) before after H E a q
        → (outcome_status outcome ≡ 1) × (IsSolvable H E a q cells → ⊥)
    cells_stop (Outcome.Judged v) before after told quiet room h = absurd h.2
    cells_stop (Outcome.BadItem k) before after told quiet room h = absurd h.2
    cells_stop (Outcome.Plain ending) before after told quiet room h =
        absurd (no_stop (Outcome.Plain ending) tree c cells before after (λ t w. ⊥) told is_c short_c quiet room (λ why t k. k) h)
    cells_stop (Outcome.Refused why) before after told quiet room h =
        let one : h.2.0 ≡ cells = one_text tree c cells h.2.0 is_c (subst (λ t. WasRead t c h.2.0) (h.1.tree ∙ told) h.2.1.was) in
        good_cells H E a q cells cs why good.given.has.members good_c h.2.2 (subst (λ t. IsNotSolved H E a q t why) one h.2.3)

    -- bytes that are the translation are the text of a solution
    cells_solved : (bytes : List ℕ) → Translates (Some tree) m p (Some c) bytes → IsSolvable H E a q cells
    cells_solved bytes t =
        let heads : t.H ≡ H = read_header t.H t.E t.header in
        let models : t.E ≡ E = read_model t.H t.E t.header in
        let given : GivenRead (Some tree) p H E t.p t.q = subst (λ G. GivenRead (Some tree) p H G t.p t.q) models
        (subst (λ K. GivenRead (Some tree) p K t.E t.p t.q) heads t.given) in
        let solved : SolvedRead (Some tree) c H E a q bytes = subst (λ r. SolvedRead (Some tree) c H E a r bytes) (read_given t.p t.q given).1
        (subst (λ b. SolvedRead (Some tree) c H E b t.q bytes) (read_given t.p t.q given).0
        (subst (λ G. SolvedRead (Some tree) c H G t.p t.q bytes) models
        (subst (λ K. SolvedRead (Some tree) c K t.E t.p t.q bytes) heads t.translation))) in
        (bytes, subst (λ x. IsSolved H E a q x bytes) (one_text tree c cells solved.0 is_c solved.1.was) solved.2)

    done : (status : ℕ) → status ≡ 0 → IsSolvable H E a q cells → AreCellsDecided status H E a q cells
    done status is s = record { solved = λ t. inl is; unsolved = λ never. absurd (never s) }

    room_ends : (status : ℕ) → status ≡ 6 → AreCellsDecided status H E a q cells
    room_ends status is = record { solved = λ t. inr is; unsolved = λ never. inr is }

    refused_by : (status : ℕ) (outcome : Outcome) → status ≡ outcome_status outcome
        → (outcome_status outcome ≡ 1) × (IsSolvable H E a q cells → ⊥) → AreCellsDecided status H E a q cells
    refused_by status outcome is k = record { solved = λ t. absurd (k.1 t); unsolved = λ never. inl (is ∙ k.0) }

    cells_decide : (outcome : Outcome) (status : ℕ) (at : Which) (before after : FilesSeen) (o o' : SinkSeen) → before.tree ≡ Some tree
        → NoFault before after o o' → status ≡ outcome_status outcome → TranslateCause outcome at m p (Some c) before after o o'
        → AreCellsDecided status H E a q cells
    cells_decide (Outcome.Plain Ending.Done) status at before after o o' told quiet is h =
        done status is (cells_solved h.0 (subst (λ t. Translates t m p (Some c) h.0) told h.1))
    cells_decide (Outcome.Plain Ending.NoMemory) status at before after o o' told quiet is h = room_ends status is
    cells_decide (Outcome.Plain Ending.OutputFailed) status at before after o o' told quiet is h = absurd (quiet.1 h.2)
    cells_decide (Outcome.Plain Ending.Unwritable) status at before after o o' told quiet is h = absurd (quiet.0 h.2)
    cells_decide (Outcome.Plain Ending.Usage) status at before after o o' told quiet is h =
        refused_by status (Outcome.Plain Ending.Usage) is (cells_stop (Outcome.Plain Ending.Usage) before after told quiet.0 (λ e. cc)
        (good_sources (Outcome.Plain Ending.Usage) at (Some c) before after told quiet.0 (λ e. cc) h))
    cells_decide (Outcome.Plain Ending.Missing) status at before after o o' told quiet is h =
        refused_by status (Outcome.Plain Ending.Missing) is (cells_stop (Outcome.Plain Ending.Missing) before after told quiet.0 (λ e. cc)
        (good_sources (Outcome.Plain Ending.Missing) at (Some c) before after told quiet.0 (λ e. cc) h))
    cells_decide (Outcome.Plain Ending.Unreadable) status at before after o o' told quiet is h =
        refused_by status (Outcome.Plain Ending.Unreadable) is (cells_stop (Outcome.Plain Ending.Unreadable) before after told quiet.0
        (λ e. cc) (good_sources (Outcome.Plain Ending.Unreadable) at (Some c) before after told quiet.0 (λ e. cc) h))
    cells_decide (Outcome.Plain Ending.TooLong) status at before after o o' told quiet is h =
        refused_by status (Outcome.Plain Ending.TooLong) is (cells_stop (Outcome.Plain Ending.TooLong) before after told quiet.0 (λ e. cc)
        (good_sources (Outcome.Plain Ending.TooLong) at (Some c) before after told quiet.0 (λ e. cc) h))
    cells_decide (Outcome.Plain Ending.NotYet) status at before after o o' told quiet is h =
        refused_by status (Outcome.Plain Ending.NotYet) is (cells_stop (Outcome.Plain Ending.NotYet) before after told quiet.0 (λ e. cc)
        (good_sources (Outcome.Plain Ending.NotYet) at (Some c) before after told quiet.0 (λ e. cc) h))
    cells_decide (Outcome.Judged v) status at before after o o' told quiet is h =
        refused_by status (Outcome.Judged v) is (cells_stop (Outcome.Judged v) before after told quiet.0 (λ e. cc)
        (good_sources (Outcome.Judged v) at (Some c) before after told quiet.0 (λ e. cc) h))
    cells_decide (Outcome.Refused why) status at before after o o' told quiet is h =
        refused_by status (Outcome.Refused why) is (cells_stop (Outcome.Refused why) before after told quiet.0 (λ e. cc)
        (good_sources (Outcome.Refused why) at (Some c) before after told quiet.0 (λ e. cc) h))
    cells_decide (Outcome.BadItem k) status at before after o o' told quiet is h =
        refused_by status (Outcome.BadItem k) is (cells_stop (Outcome.BadItem k) before after told quiet.0 (λ e. cc)
        (good_sources (Outcome.BadItem k) at (Some c) before after told quiet.0 (λ e. cc) h))

-- ---- the files decide

-- behind a parameter
pub given_files_decide : (outcome : Outcome) (status : ℕ) (at : Which) (m p : List ℕ) (before after : FilesSeen) (o o' : SinkSeen)
    → status ≡ outcome_status outcome → TranslateCause outcome at m p None before after o o'
    → TranslationDecides status m p None before after o o'
given_files_decide outcome status at m p before after o o' is cause = told before.tree refl
  where
    told : (tree : Option Tree) → before.tree ≡ tree → IfSome tree (λ t.
        IfSome (start_of_file t m (limit + 1)) (λ model. IfSome (start_of_file t p (limit + 1)) (λ param.
        NoFault before after o o' → IsGivenDecided status model param)))
    told None seen = tt
    told (Some tree) seen = first (start_of_file tree m (limit + 1)) refl
      where
        second : (model : List ℕ) → start_of_file tree m (limit + 1) ≡ Some model → (x : Option (List ℕ))
            → start_of_file tree p (limit + 1) ≡ x → IfSome x (λ param. NoFault before after o o' → IsGivenDecided status model param)
        second model is_m None is_p = tt
        second model is_m (Some param) is_p = λ quiet short_m short_p H E F a q good.
            given_decides tree m p model param H E F a q is_m is_p short_m short_p good outcome status at before after o o' seen quiet is cause

        first : (x : Option (List ℕ)) → start_of_file tree m (limit + 1) ≡ x
            → IfSome x (λ model. IfSome (start_of_file tree p (limit + 1)) (λ param. NoFault before after o o' → IsGivenDecided status model param))
        first None is_m = tt
        first (Some model) is_m = second model is_m (start_of_file tree p (limit + 1)) refl

-- behind cells
pub cells_files_decide : (outcome : Outcome) (status : ℕ) (at : Which) (m p c : List ℕ) (before after : FilesSeen) (o o' : SinkSeen)
    → status ≡ outcome_status outcome → TranslateCause outcome at m p (Some c) before after o o'
    → TranslationDecides status m p (Some c) before after o o'
cells_files_decide outcome status at m p c before after o o' is cause = told before.tree refl
  where
    told : (tree : Option Tree) → before.tree ≡ tree → IfSome tree (λ t.
        IfSome (start_of_file t m (limit + 1)) (λ model. IfSome (start_of_file t p (limit + 1)) (λ param.
        IfSome (start_of_file t c (limit + 1)) (λ cells. NoFault before after o o' → IsSolvedDecided status model param cells))))
    told None seen = tt
    told (Some tree) seen = first (start_of_file tree m (limit + 1)) refl
      where
        third : (model param : List ℕ) → start_of_file tree m (limit + 1) ≡ Some model → start_of_file tree p (limit + 1) ≡ Some param
            → (x : Option (List ℕ)) → start_of_file tree c (limit + 1) ≡ x
            → IfSome x (λ cells. NoFault before after o o' → IsSolvedDecided status model param cells)
        third model param is_m is_p None is_c = tt
        third model param is_m is_p (Some cells) is_c = λ quiet short_m short_p short_c H E F a q cs good good_c.
            cells_decide tree m p model param H E F a q is_m is_p short_m short_p good c cells cs is_c short_c good_c
            outcome status at before after o o' seen quiet is cause

        second : (model : List ℕ) → start_of_file tree m (limit + 1) ≡ Some model → (x : Option (List ℕ))
            → start_of_file tree p (limit + 1) ≡ x → IfSome x (λ param. IfSome (start_of_file tree c (limit + 1)) (λ cells.
            NoFault before after o o' → IsSolvedDecided status model param cells))
        second model is_m None is_p = tt
        second model is_m (Some param) is_p = third model param is_m is_p (start_of_file tree c (limit + 1)) refl

        first : (x : Option (List ℕ)) → start_of_file tree m (limit + 1) ≡ x
            → IfSome x (λ model. IfSome (start_of_file tree p (limit + 1)) (λ param. IfSome (start_of_file tree c (limit + 1)) (λ cells.
            NoFault before after o o' → IsSolvedDecided status model param cells)))
        first None is_m = tt
        first (Some model) is_m = second model is_m (start_of_file tree p (limit + 1)) refl

-- the files decide
pub translation_decides : (outcome : Outcome) (status : ℕ) (at : Which) (m p : List ℕ) (c : Option (List ℕ)) (before after : FilesSeen)
    (o o' : SinkSeen) → status ≡ outcome_status outcome → TranslateCause outcome at m p c before after o o'
    → TranslationDecides status m p c before after o o'
translation_decides outcome status at m p None before after o o' is cause =
    given_files_decide outcome status at m p before after o o' is cause
translation_decides outcome status at m p (Some c) before after o o' is cause =
    cells_files_decide outcome status at m p c before after o o' is cause
