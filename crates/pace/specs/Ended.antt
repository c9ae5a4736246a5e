-- A run that ended: what its edit records and its log say of each place, and that what the watch found by the log's end are
-- all the clean cycles.
use Rattle.std.specs.Prelude.{◌≡◌, ℕ, ◌-◌, ◌<◌, ◌≤◌, Bool, true, false, not, ◌&&◌, ◌||◌, List, [], ◌∷◌, ◌++◌, length, get_or, replicate, ◌==◌, ◌≢◌, nat_eq, slice_index_or, refl}
use Rattle.std.proofs.Common.{sym, ap, ◌∙◌, true≢false, ⊎_elim, arith, length-append, eqb-true}
use Rattle.std.proofs.Math.Path.{subst}
use Rattle.std.proofs.lemmas.Bool.{false≢true, eqb-false}
use mathlib.Core.List.{Memᴰ}
use Rattle.std.proofs.Math.ListN.{get_or-append}
use Rattle.base.specs.Telling.{Tells}
use Rattle.grammar.specs.Words.{END, Restart, opening, closing, restart_mark}
use Rattle.grammar.specs.Moves.{Move, edits, edit_words}
use Rattle.grammar.specs.Buffers.{filled}
use Rattle.grammar.specs.Run.{counts_of}
use Rattle.grammar.specs.Pace.{Kept, Edited, CleanCycles, Reports, pace_of, report_of, ReportsBy}
use Rattle.grammar.specs.Refusals.{given}
use Rattle.grammar.proofs.Theory.FewCycles.{closes_within}
use Rattle.grammar.specs.Theory.Places.{Walk, Deleted}
use Rattle.grammar.proofs.Theory.Places.{walk_run, places_rise, kept_token, kept_apart, kept_or_deleted}
use Rattle.pace.specs.Recorded.{entry_at, index_of, records_rise}
use Rattle.pace.specs.Found.{Found}
use Rattle.pace.specs.Standing.{Spoils}
use Rattle.pace.specs.Watch.{SomeAt, DeleteAt, kind_at, place_at, Records, Ran}

-- The clean cycles of the words' marks that close before b.
abbrev pub FoundBy : (ws ticks : List ℕ) → List Move → (b count sum : ℕ) → Type 0
FoundBy ws ticks = Found (opening ws) (closing ws) (restart_mark ws) ticks

-- A restart mark is not the closing mark.
restart_other : {T o c m : ℕ} → Restart T o c m → 1 ≤ m → m ≢ c
restart_other (Restart.restarts a b d e) some = e
restart_other (Restart.none e) some = absurd (omega arith)

module _ (ws log words : List ℕ) (records : ℕ) (ms : List Move) (ran : Ran ws log words records ms) where
  walk : Walk 0 (log ++ (END ∷ [])) ms
  walk = walk_run log ran.run

  -- What stands behind the records.
  behind : List ℕ
  behind = replicate (ran.edit_room - length (edit_words (edits ms))) 0

  words_are : words ≡ edit_words (edits ms) ++ behind
  unfolding behind filled
  words_are = ran.left

  -- The records are there, and their places never fall.
  pub ran_records : Records words records
  ran_records =
      let h = records_rise (edits ms) behind 0 (places_rise walk) in
      subst (λ (n : ℕ). Records words n) (sym ran.counted)
      (subst (λ (l : List ℕ). Records l (length (edits ms))) (sym words_are) h)

  -- ---- What the records say of a place

  some_edit : (p : ℕ) → SomeAt words records p → Edited ms p
  some_edit p h =
      let e = entry_at (edits ms) behind h.0 (omega (arith, h.1, ran.counted)) in
      let d = e.edit in
      let place : d.place ≡ p = sym e.place ∙ (ap (λ (l : List ℕ). place_at l h.0) (sym words_are) ∙ h.2) in (
        d.kind,
        d.symbol,
        subst (λ (q : ℕ). Memᴰ (record { kind = d.kind; place = q; symbol = d.symbol }) (edits ms)) place e.member,
      )

  edit_some : (p : ℕ) → Edited ms p → SomeAt words records p
  edit_some p h =
      let i = index_of (edits ms) behind (record { kind = h.0; place = p; symbol = h.1 }) h.2 in
      (i.at, omega (arith, i.within, ran.counted), ap (λ (l : List ℕ). place_at l i.at) words_are ∙ i.place)

  some_deleted : (p : ℕ) → DeleteAt words records p → Deleted ms p
  some_deleted p h =
      let e = entry_at (edits ms) behind h.0 (omega (arith, h.1, ran.counted)) in
      let d = e.edit in
      let place : d.place ≡ p = sym e.place ∙ (ap (λ (l : List ℕ). place_at l h.0) (sym words_are) ∙ h.2) in
      let kind : d.kind ≡ 1 = sym e.kind ∙ (ap (λ (l : List ℕ). kind_at l h.0) (sym words_are) ∙ h.3) in (
        d.symbol,
        subst (λ (k : ℕ). Memᴰ (record { kind = k; place = p; symbol = d.symbol }) (edits ms)) kind
            (subst (λ (q : ℕ). Memᴰ (record { kind = d.kind; place = q; symbol = d.symbol }) (edits ms)) place e.member),
      )

  deleted_some : (p : ℕ) → Deleted ms p → DeleteAt words records p
  deleted_some p h =
      let i = index_of (edits ms) behind (record { kind = 1; place = p; symbol = h.0 }) h.1 in (
        i.at,
        omega (arith, i.within, ran.counted),
        ap (λ (l : List ℕ). place_at l i.at) words_are ∙ i.place,
        ap (λ (l : List ℕ). kind_at l i.at) words_are ∙ i.kind,
      )

  -- A test for the records of a place is one for its edits.
  pub edited_tells : (p : ℕ) {r : Bool} → Tells (SomeAt words records p) r → Tells (Edited ms p) r
  edited_tells p t = record { yes = λ e. some_edit p (t.yes e); no = λ e h. t.no e (edit_some p h) }

  -- ---- Kept tokens

  -- A kept token of the log is the log's,
  log_kept : (p t : ℕ) → p < length log → Kept ms p t → t ≡ slice_index_or log p END
  log_kept p t l k =
      let h = kept_token walk k in
      let same : h.behind ≡ p = omega (arith, h.place) in
      h.token ∙ (ap (λ (i : ℕ). get_or (log ++ (END ∷ [])) i END) same ∙ get_or-append log (END ∷ []) END p l)

  -- and a token of the log is kept where it is not deleted.
  kept_log : (p : ℕ) → p < length log → (Deleted ms p → ⊥) → Kept ms p (slice_index_or log p END)
  kept_log p l n =
      ⊎_elim
      (λ k. subst (λ t. Kept ms p t) (get_or-append log (END ∷ []) END p l) k)
      (λ d. absurd (n d))
      (kept_or_deleted walk p p (omega arith) (omega (arith, length-append log (END ∷ []))))

  -- A test for the token, where it is not deleted, is one for a kept token.
  pub kept_tells : (p t : ℕ) (d : Bool) → p < length log → Tells (DeleteAt words records p) d
      → Tells (Kept ms p t) (not d && slice_index_or log p END == t)
  kept_tells p t true l h =
      record {
        yes = λ e. absurd (false≢true e);
        no = λ e k. let gone = some_deleted p (h.yes refl) in kept_apart walk k gone.1;
      }
  kept_tells p t false l h =
      record {
        yes = λ e.
            subst (λ x. Kept ms p x) (eqb-true (slice_index_or log p END) t e) (kept_log p l (λ g. h.no refl (deleted_some p g)));
        no = λ e k. eqb-false (slice_index_or log p END) t e (sym (log_kept p t l k));
      }

  -- No closing mark is kept where a restart mark is: one token is kept there.
  pub marks_apart : 1 ≤ restart_mark ws → (p : ℕ) → Kept ms p (closing ws) → Kept ms p (restart_mark ws) → ⊥
  marks_apart some p a b =
      let h = kept_token walk a in
      let k = kept_token walk b in
      let same : h.behind ≡ k.behind = omega (arith, h.place, k.place) in
      restart_other ran.admitted.words.shaped.restart some
      (k.token ∙ (ap (λ (i : ℕ). get_or (log ++ (END ∷ [])) i END) (sym same) ∙ sym h.token))

  -- A test for an edit or the restart mark is one for what spoils: a deleted token's place is edited.
  pub spoils_tells : (p : ℕ) (e : Bool) (d : Bool) → p < length log → 1 ≤ slice_index_or log p END → Tells (SomeAt words records p) e
      → Tells (DeleteAt words records p) d → Tells (Spoils (restart_mark ws) ms p) (e || slice_index_or log p END == restart_mark ws)
  spoils_tells p true d l some t u =
      record { yes = λ q. Spoils.edited (some_edit p (t.yes refl)); no = λ q. absurd (true≢false q) }
  spoils_tells p false true l some t u =
      absurd (let h = u.yes refl in t.no refl (h.0, h.1, h.2))
  spoils_tells p false false l some t u =
      record {
        yes = λ q.
            let same = eqb-true (slice_index_or log p END) (restart_mark ws) q in
            Spoils.restarted (omega arith) ((kept_tells p (restart_mark ws) false l u).yes q);
        no = λ q s. unspoiled q s;
      }
    where
      unspoiled : nat_eq (slice_index_or log p END) (restart_mark ws) ≡ false → Spoils (restart_mark ws) ms p → ⊥
      unspoiled q (Spoils.edited h) = t.no refl (edit_some p h)
      unspoiled q (Spoils.restarted m k) = (kept_tells p (restart_mark ws) false l u).no q k

  -- ---- The end

  -- What was found by the log's end are all clean cycles.
  pub found_all : {count sum : ℕ} {ticks : List ℕ} (f : FoundBy ws ticks ms (length log) count sum)
      → CleanCycles (opening ws) (closing ws) (restart_mark ws) ms f.cycles
  found_all f =
      record { ascending = f.ascending; every = λ s y. f.every s y (closes_within ran.admitted ran.run s y); only = f.only }

  -- So they make the report.
  pub found_report : {count sum : ℕ} {ticks : List ℕ} → FoundBy ws ticks ms (length log) count sum
      → Reports ws ticks (given ms) (given (record { count = count; sum = sum; pace = pace_of count sum }, counts_of ms))
  unfolding report_of
  found_report {count} {sum} {ticks} f =
      let counts = f.counts in
      let sums = f.sums in
      let same : report_of ticks f.cycles ≡ record { count = count; sum = sum; pace = pace_of count sum } = cc in
      subst (λ r. Reports ws ticks (given ms) (given (r, counts_of ms))) same (ReportsBy.paced (found_all f))
