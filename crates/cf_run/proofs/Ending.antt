-- What the number says with which the program ends.
use Rattle.std.proofs.Common.{◌≡◌, ◌⊎◌, inl, inr, ℕ, Option, Some, None, refl, sym, ap, subst, ◌∙◌, arith}
use Rattle.cf_command.specs.Call.{Call}
use Rattle.cf_command.specs.Call.Call.{run, synth, dump, snapshot, watch, long}
use Rattle.cf_run.specs.Answers.{number_of}
use Rattle.cf_run.specs.Ending.{EndsBy}
use Rattle.cf_run.specs.declared.status.Status.{Status}
use Rattle.cf_run.specs.declared.status.Status.TheVariants.{Done, Words, Setup, Capture, ReadFault, WriteFault, Full, Nodes, Memory, NoFile}

words_number : (status : Status) → number_of status ≡ 1 → status ≡ Words
words_number Words is = refl
words_number Done is = absurd (omega (arith, is))
words_number (Setup line code) is = absurd (omega (arith, is))
words_number (Capture at code) is = absurd (omega (arith, is))
words_number ReadFault is = absurd (omega (arith, is))
words_number WriteFault is = absurd (omega (arith, is))
words_number Full is = absurd (omega (arith, is))
words_number Nodes is = absurd (omega (arith, is))
words_number Memory is = absurd (omega (arith, is))
words_number NoFile is = absurd (omega (arith, is))

-- 1 is the number of no command
pub no_command : (call : Option Call) (number : ℕ) → EndsBy call number → number ≡ 1 → call ≡ None
no_command None number by is = refl
no_command (Some (run call)) number by is = absurd (by.3.0 (words_number by.0 (sym by.2 ∙ is)))
no_command (Some (synth call)) number by is = absurd (by.3.0 (words_number by.0 (sym by.2 ∙ is)))
no_command (Some (dump call)) number by is = absurd (by.3.0 (words_number by.0 (sym by.2 ∙ is)))
no_command (Some (snapshot call)) number by is = absurd (by.3.0 (words_number by.0 (sym by.2 ∙ is)))
no_command (Some (watch call)) number by is = absurd (by.3.0 (words_number by.0 (sym by.2 ∙ is)))
no_command (Some (long call)) number by is = absurd (by.3.0 (words_number by.0 (sym by.2 ∙ is)))

no_other : (number : ℕ) → EndsBy None number → (number ≡ 1) ⊎ (number ≡ 8) ⊎ (number ≡ 5)
no_other number by = elim by.3 [
  | inl words ↦ inl (by.2 ∙ ap (λ (s : Status). number_of s) words)
  | inr (inl memory) ↦ inr (inl (by.2 ∙ ap (λ (s : Status). number_of s) memory))
  | inr (inr fault) ↦ inr (inr (by.2 ∙ ap (λ (s : Status). number_of s) fault))
]

-- or that memory ran out, or of a device's fault
pub no_other_end : (call : Option Call) (number : ℕ) → EndsBy call number → call ≡ None → (number ≡ 1) ⊎ (number ≡ 8) ⊎ (number ≡ 5)
no_other_end call number by none = no_other number (subst (λ (c : Option Call). EndsBy c number) none by)
