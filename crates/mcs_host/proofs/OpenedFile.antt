-- The calls on a file that was filled or rewritten when it was opened.
use Rattle.std.proofs.Common.{◌≡◌, ◌∙◌, ap, ap₂, subst, sym, refl, inl, inr, ℕ, min, ◌+◌, List, ◌∷◌, length, Bool, true, IsTrue, arith}
use Rattle.mcs_journal.specs.declared.format.TheConstants.{FILE_SIZE}
use Rattle.mcs_host.specs.HostCalls.{AnsweredCall, HostState, KeepsNameAndNumber, Length, after_call}
use Rattle.mcs_host.specs.Opening.{IsFreshlyOpened, IsAllZeros, IsFilledAfter, IsOpenedFile, IsReadAfter, IsWrittenAfter, locking_calls}

-- the calls on a file after it was locked and its length was requested
calls_after_length_request : (name : List ℕ) (file_length n : ℕ) (first locked measured : HostState) → locked.calls ≡ locking_calls name first.calls → measured ≡ after_call (Length file_length true) locked → file_length ≡ n
    → measured.calls ≡ Length n true ∷ locking_calls name first.calls
calls_after_length_request name file_length n first locked measured lock long is =
    ap (λ (s : HostState). s.calls) long ∙ ap₂ (λ (n : ℕ) (before : List AnsweredCall). Length n true ∷ before) is lock

pub opened_file_if_filled : (create_if_missing : Bool) (name bytes written : List ℕ) (file_length : ℕ) (first locked measured filled : HostState) → IsTrue create_if_missing → first.name ≡ name → IsFreshlyOpened create_if_missing first.calls
    → KeepsNameAndNumber first locked → locked.calls ≡ locking_calls name first.calls → measured ≡ after_call (Length file_length true) locked → file_length ≡ 0
    → KeepsNameAndNumber measured filled → IsFilledAfter name written bytes measured.calls filled.calls → length bytes ≡ FILE_SIZE → IsAllZeros written → IsOpenedFile create_if_missing name bytes true filled
opened_file_if_filled create_if_missing name bytes written file_length first locked measured filled may_create named begun same lock long none after fills size blank = record {
  named = after.name ∙ ap (λ (s : HostState). s.name) long ∙ same.name ∙ named;
  opened = first.calls;
  begun = begun;
  filled_read_or_rewritten = inl (record {
    may_create = may_create;
    size = size;
    stable = refl;
    written = written;
    is_blank = blank;
    host_calls = subst (λ (before : List AnsweredCall). IsFilledAfter name written bytes before filled.calls) (calls_after_length_request name file_length 0 first locked measured lock long none) fills;
  });
}

file_length_is_file_size : (file_length : ℕ) → min file_length (FILE_SIZE + 1) ≡ FILE_SIZE → file_length ≡ FILE_SIZE
file_length_is_file_size file_length least = omega (arith, least)

pub opened_file_if_rewritten : (create_if_missing : Bool) (name bytes written : List ℕ) (stable : Bool) (file_length : ℕ) (first locked measured read rewritten : HostState) → IsTrue create_if_missing → first.name ≡ name
    → IsFreshlyOpened create_if_missing first.calls → KeepsNameAndNumber first locked → locked.calls ≡ locking_calls name first.calls → measured ≡ after_call (Length file_length true) locked → length bytes ≡ min file_length (FILE_SIZE + 1)
    → KeepsNameAndNumber measured read → IsReadAfter name bytes stable measured.calls read.calls → IsAllZeros bytes → KeepsNameAndNumber read rewritten → written ≡ bytes
    → IsWrittenAfter name written read.calls rewritten.calls → IsOpenedFile create_if_missing name bytes stable rewritten
opened_file_if_rewritten create_if_missing name bytes written stable file_length first locked measured read rewritten may_create named begun same lock long size after reads blank same_name written_is writes =
    let length_is_file_size : file_length ≡ FILE_SIZE = file_length_is_file_size file_length (sym size ∙ blank.size) in
    record {
      named = same_name.name ∙ after.name ∙ ap (λ (s : HostState). s.name) long ∙ same.name ∙ named;
      opened = first.calls;
      begun = begun;
      filled_read_or_rewritten = inr (inr (record {
        may_create = may_create;
        is_blank = blank;
        read = read.calls;
        host_calls = subst (λ (before : List AnsweredCall). IsReadAfter name bytes stable before read.calls) (calls_after_length_request name file_length FILE_SIZE first locked measured lock long length_is_file_size) reads;
        writes = subst (λ (w : List ℕ). IsWrittenAfter name w read.calls rewritten.calls) written_is writes;
      }));
    }
