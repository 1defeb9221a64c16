-- Worked histories, by computing: what calls are answered one after the other, and what a failure leaves.
use Rattle.std.specs.Prelude.{◌≡◌, pos, true, false, List, [], ◌∷◌, map, Some, None, Result, Ok, Err, refl}
use Rattle.den_model.specs.declared.reply.ClientResponsePayload.TheVariants as payload
use Rattle.den_model.specs.declared.reply.Reply.TheVariants as reply
use Rattle.den_model.specs.declared.reply.WatchEventType.TheVariants as event
use Rattle.den_model.specs.declared.command.WriteOperation.TheVariants as operation
use Rattle.den_model.specs.declared.request.Frame.{Frame}
use Rattle.den_model.specs.declared.request.Frame.TheVariants.{Good}
use Rattle.den_model.specs.declared.request.Request.TheVariants as request
use Rattle.den_model.specs.Kv.{at_entry, nothing}
use Rattle.den_model.specs.Step.{answered}
use Rattle.den_watch.specs.Registry.{nobody}
use Rattle.den_desk.specs.declared.history.Answer.{Answer}
use Rattle.den_desk.specs.declared.history.Answer.TheVariants as answer
use Rattle.den_desk.specs.declared.history.Call.{Call}
use Rattle.den_desk.specs.declared.history.Call.TheVariants.{Serve, Take, Unregister, Look, Stop}
use Rattle.den_desk.specs.declared.history.FailKind.{FailKind}
use Rattle.den_desk.specs.declared.history.FailKind.TheVariants.{OutOfMemory, Stopped}
use Rattle.den_desk.specs.declared.history.Finished.{Finished}
use Rattle.den_desk.specs.History.{Standing, beginning, finished, replay}

-- a desk over an engine that leads alone, of which nothing was asked, with room for one event of each watcher
abbrev fresh : Standing
fresh = beginning (at_entry nothing (record { role = pos 2; hint = None; lease = false; interval = 1000; maximum = 1000; buffer = 1 }) [] (Some 1)) (nobody 1 1000)

-- a call of caller 0 at moment 1000, that is answered or fails as its place has it
abbrev asked : Call → Finished
asked call = finished 0 1000 call (Ok answer.Stopped)

-- what the calls come to
abbrev outcomes : List Finished → List (Result Answer FailKind)
outcomes calls = map (λ f. f.outcome) (replay 0 fresh calls)

-- a = b
abbrev put : Frame
put = Good (request.Write (record { client_id = 1; command = Some (operation.Insert (97 ∷ []) (98 ∷ []) None) }))

abbrev read : Frame
read = Good (request.Read (record { client_id = 1; keys = (97 ∷ []) ∷ []; consistency_policy = None }))

abbrev watch : Frame
watch = Good (request.Watch 1 false false (97 ∷ []))

-- a put and a read
pub put_and_read : outcomes (asked (Serve put) ∷ asked (Serve read) ∷ [])
    ≡ Ok (answer.Reply (answered (payload.Write true)))
    ∷ Ok (answer.Reply (answered (payload.Read (record { key = 97 ∷ []; value = 98 ∷ [] } ∷ [])))) ∷ []
put_and_read = refl

-- a watch, a put, and what waits for the watcher, once
pub watch_and_take : outcomes (asked (Serve watch) ∷ asked (Serve put) ∷ asked (Take (record { id = 1 })) ∷ asked (Take (record { id = 1 })) ∷ asked (Take (record { id = 2 })) ∷ [])
    ≡ Ok (answer.Reply (reply.Watching 1))
    ∷ Ok (answer.Reply (answered (payload.Write true)))
    ∷ Ok (answer.Events (record { watcher = 1; revision = 1; kind = event.Put; key = 97 ∷ []; value = 98 ∷ []; prev_value = [] } ∷ []))
    ∷ Ok (answer.Events [])
    ∷ Ok answer.NotRegistered ∷ []
watch_and_take = refl

-- the second put finds no room: what waited is taken, and then the watcher has ended until it is unregistered
pub overflows : outcomes (asked (Serve watch) ∷ asked (Serve put) ∷ asked (Serve put) ∷ asked (Take (record { id = 1 })) ∷ asked (Take (record { id = 1 }))
    ∷ asked (Unregister (record { id = 1 })) ∷ asked (Unregister (record { id = 1 })) ∷ [])
    ≡ Ok (answer.Reply (reply.Watching 1))
    ∷ Ok (answer.Reply (answered (payload.Write true)))
    ∷ Ok (answer.Reply (answered (payload.Write true)))
    ∷ Ok (answer.Events (record { watcher = 1; revision = 1; kind = event.Put; key = 97 ∷ []; value = 98 ∷ []; prev_value = [] } ∷ []))
    ∷ Ok answer.Overflow
    ∷ Ok (answer.Unregistered true)
    ∷ Ok (answer.Unregistered false) ∷ []
overflows = refl

-- a look counts the places from its first up to its own, and a stop ends all
pub look_and_stop : outcomes (asked (Serve put) ∷ asked (Look 0 9) ∷ asked (Look 1 1) ∷ asked (Look 7 9) ∷ asked Stop ∷ asked (Serve read) ∷ asked Stop ∷ [])
    ≡ Ok (answer.Reply (answered (payload.Write true)))
    ∷ Ok (answer.Looked 0 1)
    ∷ Ok (answer.Looked 1 1)
    ∷ Ok (answer.Looked 7 0)
    ∷ Ok answer.Stopped
    ∷ Err Stopped
    ∷ Err Stopped ∷ []
look_and_stop = refl

-- a call that fails ends all for its own cause; none is stopped before a stop
pub fails_for_good : outcomes (finished 0 1000 (Serve put) (Err OutOfMemory) ∷ asked (Serve read) ∷ asked Stop ∷ []) ≡ Err OutOfMemory ∷ Err OutOfMemory ∷ Err OutOfMemory ∷ []
fails_for_good = refl

pub none_is_stopped_so : outcomes (finished 0 1000 (Serve put) (Err Stopped) ∷ []) ≡ Ok (answer.Reply (answered (payload.Write true))) ∷ []
none_is_stopped_so = refl
