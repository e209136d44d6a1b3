-- What a call on a handle says of what a store has done, and the words in which it does.
use Rattle.std.specs.Prelude.{◌≡◌, None}
use Rattle.store_steps.specs.declared.batches.Batches.{Batches}
use Rattle.store_steps.specs.declared.measuring.Stats.{Stats}
use Rattle.store_steps.specs.Measuring.{MeasuresBy}
use Rattle.store_steps.specs.Views.{SessionView}
use Rattle.store.specs.Sessions.{known_of}
use Rattle.host_calls.specs.declared.attached.Looked.{Looked}
use Rattle.host_calls.specs.declared.attached.Looked.TheVariants.{Seen}
use Rattle.host_calls.specs.declared.handles.SessionHandle.{SessionHandle}
use Rattle.host_calls.specs.declared.handles.TheConstants.{AT_END}
use Rattle.host_calls.specs.declared.measuring.StatWords.{StatWords}
use Rattle.host_calls.specs.Describing.{no_info}
use Rattle.host_calls.specs.Looks.{Looks, TellsLook}
use Rattle.host_calls.specs.Views.{AttachedView}

abbrev pub stat_words : Stats → (shared : Batches) → StatWords
stat_words stats shared = record {
  completed = stats.completed;
  appended = stats.appended;
  kept = stats.kept;
  tail = stats.tail;
  lag = stats.lag;
  batches = shared.count;
  batched = shared.requests;
  largest = shared.largest;
}

-- the words are the figures of one moment, at which the session held the log and the replica of its own node; its counts of batches may be any
abbrev pub TellsStats : (left : StatWords) → (old new : SessionView) → Looked → Type 0
TellsStats left old new told =
    (stats : Stats) × (shared : Batches) × (told ≡ Seen stats.completed 0 AT_END) × (left ≡ stat_words stats shared) × MeasuresBy (known_of old) (known_of new) stats

-- no store refuses that
abbrev pub TellsMeasured : (words left : StatWords) → (old new : AttachedView) → Looked → Type 0
TellsMeasured words left old new told = TellsLook None no_info (left ≡ words) (TellsStats left old.session new.session) old.session new.session told

abbrev pub Measures : (before after : SessionHandle) → (words left : StatWords) → Type 0
Measures before after words left = Looks (left ≡ words) (TellsMeasured words left) before after
