-- What came of reading a script to its end.
use Rattle.std.proofs.Common.{◌≡◌, ◌⊎◌, inl, inr, ℕ, ◌≤◌, List, length, Ok, Err, refl}
use Rattle.std.specs.Result.{IsErrOf}
use Rattle.dns_io.specs.Told.{Rose, WasRead, WasLonger}
use Rattle.dns_edges.specs.Edges.{Around, SourceTold}
use Rattle.dns_edges.specs.declared.to_end.ReadFault.{ReadFault}
use Rattle.dns_edges.specs.declared.to_end.ReadFault.TheVariants as read
use Rattle.dns_words.proofs.TextsRead.{WasRead-bytes}
use Rattle.dns_update_script.specs.declared.fault.ScriptFault.{ScriptFault}
use Rattle.dns_update_script.specs.declared.fault.ScriptFault.TheVariants as script
use Rattle.dns_update_script.specs.declared.script.Sending.{Sending}
use Rattle.dns_update_script.specs.Script.{script_of, Tells}
use Rattle.dns_update_client.specs.World.{IsCalm}
use Rattle.dns_update_client.specs.Status.{read_status, script_status}
use Rattle.dns_update_client.specs.Steps.{script_bound, LoadsScript, LoadsNoScript, script_unread, script_too_long, script_refused, script_without_memory}

-- a script that was not read to its end
pub script_cut : {T : Type 0} (source : Around SourceTold) (fault : ReadFault)
    → (IsErrOf {T = T} (Err fault) read.TooLong → WasLonger source.before.left source.after.left script_bound)
    → (IsErrOf {T = T} (Err fault) read.Failed → Rose source.before.faults source.after.faults)
    → IsErrOf {T = T} (Err fault) read.Failed ⊎ IsCalm source → LoadsNoScript source (read_status fault)
script_cut source read.Failed long cause calm = script_unread (cause refl)
script_cut source read.TooLong long cause calm = script_too_long (long refl) (elim calm [ inl failed ↦ absurd cc | inr it ↦ it ])
script_cut source read.OutOfMemory long cause calm = script_without_memory (elim calm [ inl failed ↦ absurd cc | inr it ↦ it ])

-- the count of a source whose end was told
pub calm_read : {T : Type 0} (source : Around SourceTold) (value : T) → IsErrOf (Ok value) read.Failed ⊎ IsCalm source → IsCalm source
calm_read source value (inl failed) = absurd cc
calm_read source value (inr it) = it

-- a script that was read to its end and is refused
pub script_faulty : (source : Around SourceTold) (bytes : List ℕ) (fault : ScriptFault)
    → WasRead source.before.left source.after.left (λ text. text ≡ bytes) → length bytes ≤ script_bound
    → Tells (script_of bytes) fault → IsCalm source → LoadsNoScript source (script_status fault)
script_faulty source bytes (script.Refused line kind) read short tells calm =
    let told = λ (text : List ℕ). (length text ≤ script_bound) × (script_of text ≡ Err (script.Refused line kind)) in
    script_refused line kind (WasRead-bytes source.before.left source.after.left bytes told read (short, tells)) calm
script_faulty source bytes script.OutOfMemory read short tells calm = script_without_memory calm

-- a script that was read to its end
pub script_read : (source : Around SourceTold) (bytes : List ℕ) (sendings : List Sending)
    → WasRead source.before.left source.after.left (λ text. text ≡ bytes) → length bytes ≤ script_bound
    → script_of bytes ≡ Ok sendings → IsCalm source → LoadsScript source sendings
script_read source bytes sendings read short means calm = record {
  text = WasRead-bytes source.before.left source.after.left bytes (λ text. (length text ≤ script_bound) × (script_of text ≡ Ok sendings)) read (short, means);
  calm = calm;
}
