-- What a pool lends.
use Rattle.std.specs.Prelude.{List}
use Rattle.std.specs.declared.sync.Arc.{Arc}
use Rattle.std.specs.declared.alloc.Global.{Global}
use Rattle.lock_api.specs.declared.Mutex.{Mutex}
use Rattle.lock_examples.specs.declared.pool.Pool.{Pool}

abbrev pub objects_of : {R T G W : Type 0} → Pool R T G W → List (Arc (Mutex R T) Global)
objects_of pool = pool.objects.items
