-- The worked rows: what a script on a new file prints.
use Rattle.std.specs.Prelude.{◌≡◌, [], codes, refl}
use Rattle.grid_model.specs.Computing.{computing}
use Rattle.grid_model.specs.Transcripts.{prints, Prints, Faults}

row-1 : prints (record { k = 2; capacity = 2; pages = 64; slots = 8; boundaries = 1000; cells = 1000000 }) []
    ≡ Prints (codes "front 0\n")
unfolding computing
row-1 = refl

row-2 : prints (record { k = 2; capacity = 2; pages = 64; slots = 8; boundaries = 1000; cells = 1000000 }) (codes "put 3,7 6869\nget 3,7\n")
    ≡ Prints (codes "client 1\n@1 new\n@1 = 6869\nfront 1\n")
unfolding computing
row-2 = refl

row-3 : prints (record { k = 2; capacity = 2; pages = 64; slots = 8; boundaries = 1000; cells = 1000000 }) (codes "put 3,7 6869\nput 3,7 6869\n")
    ≡ Prints (codes "client 1\n@1 new\n@2 old 6869\nfront 2\n")
unfolding computing
row-3 = refl

row-4 : prints (record { k = 2; capacity = 2; pages = 64; slots = 8; boundaries = 1000; cells = 1000000 }) (codes "put 3,7 01\nput 5,1 02\nput 9,9 03\nstat\n")
    ≡ Prints (codes "client 1\n@1 new\n@2 new\n@3 new\n@3 stat records 3 cells 2 buckets 2 free 59\nfront 3\n")
unfolding computing
row-4 = refl

row-5 : prints (record { k = 2; capacity = 2; pages = 64; slots = 8; boundaries = 1000; cells = 1000000 }) (codes "put 3,7 01\nput 5,1 02\nput 9,9 03\nput 6,4 04\nstat\n")
    ≡ Prints (codes "client 1\n@1 new\n@2 new\n@3 new\n@4 new\n@4 stat records 4 cells 4 buckets 3 free 58\nfront 4\n")
unfolding computing
row-5 = refl

row-6 : prints (record { k = 2; capacity = 2; pages = 64; slots = 8; boundaries = 1000; cells = 1000000 }) (codes "put 3,7 01\nput 5,1 02\nput 9,9 03\nput 6,4 04\nput 1,1 05\nput 2,9 06\nstat\n")
    ≡ Prints (codes "client 1\n@1 new\n@2 new\n@3 new\n@4 new\n@5 new\n@6 new\n@6 stat records 6 cells 4 buckets 4 free 57\nfront 6\n")
unfolding computing
row-6 = refl

row-7 : prints (record { k = 2; capacity = 2; pages = 64; slots = 8; boundaries = 1000; cells = 1000000 }) (codes "put 3,7 01\nput 5,1 02\nput 9,9 03\nput 6,4 04\nput 1,1 05\nput 2,9 06\nlist 3..9,1..7\n")
    ≡ Prints (codes "client 1\n@1 new\n@2 new\n@3 new\n@4 new\n@5 new\n@6 new\n@6 rows 3\n3,7 01\n5,1 02\n6,4 04\nfront 6\n")
unfolding computing
row-7 = refl

row-8 : prints (record { k = 2; capacity = 2; pages = 64; slots = 8; boundaries = 1000; cells = 1000000 }) (codes "put 3,7 01\nput 5,1 02\nput 9,9 03\nput 6,4 04\nput 1,1 05\nput 2,9 06\nlist *,9\ncount *,9\n")
    ≡ Prints (codes "client 1\n@1 new\n@2 new\n@3 new\n@4 new\n@5 new\n@6 new\n@6 rows 2\n2,9 06\n9,9 03\n@6 count 2\nfront 6\n")
unfolding computing
row-8 = refl

row-9 : prints (record { k = 2; capacity = 2; pages = 64; slots = 8; boundaries = 1000; cells = 1000000 }) (codes "put 0,0 -\nput 18446744073709551615,18446744073709551615 aa\nput 0,1 -\nlist *,*\n")
    ≡ Prints (codes "client 1\n@1 new\n@2 new\n@3 new\n@3 rows 3\n0,0 -\n0,1 -\n18446744073709551615,18446744073709551615 aa\nfront 3\n")
unfolding computing
row-9 = refl

row-10 : prints (record { k = 2; capacity = 2; pages = 8; slots = 8; boundaries = 1000; cells = 1000000 }) (codes "put 3,7 01\nput 5,1 02\nput 9,9 03\nput 6,4 04\nput 1,1 05\nput 2,9 06\nput 1,2 07\nput 2,2 08\nget 2,2\nremove 1,1\nstat\n")
    ≡ Prints (codes "client 1\n@1 new\n@2 new\n@3 new\n@4 new\n@5 new\n@6 new\n@7 new\nfull free 3 need 4\n@7 none\n@8 gone 05\n@8 stat records 6 cells 4 buckets 4 free 2\nfront 8\n")
unfolding computing
row-10 = refl

row-11 : prints (record { k = 2; capacity = 2; pages = 64; slots = 8; boundaries = 1; cells = 1000000 }) (codes "put 1,1 -\nput 1,2 -\nput 1,3 -\nput 1,4 -\n")
    ≡ Prints (codes "client 1\n@1 new\n@2 new\n@3 new\nnocut cells 2 boundaries 1\nfront 3\n")
unfolding computing
row-11 = refl

row-12 : prints (record { k = 2; capacity = 2; pages = 64; slots = 8; boundaries = 1000; cells = 1000000 }) (codes "remove 4,4\n")
    ≡ Prints (codes "client 1\n@0 none\nfront 0\n")
unfolding computing
row-12 = refl

row-13 : prints (record { k = 2; capacity = 2; pages = 64; slots = 8; boundaries = 1000; cells = 1000000 }) (codes "put 3,7 01\nput 5,1 02\nput 9,9 03\nremove 3,7\nremove 9,9\nstat\n")
    ≡ Prints (codes "client 1\n@1 new\n@2 new\n@3 new\n@4 gone 01\n@5 gone 03\n@5 stat records 1 cells 2 buckets 1 free 60\nfront 5\n")
unfolding computing
row-13 = refl

row-14 : prints (record { k = 2; capacity = 2; pages = 64; slots = 8; boundaries = 1000; cells = 1000000 }) (codes "list 9..3,*\n")
    ≡ Faults 1
unfolding computing
row-14 = refl

row-28 : prints (record { k = 2; capacity = 2; pages = 64; slots = 1; boundaries = 1000; cells = 1000000 }) (codes "put 3,7 01\nput 5,1 02\nput 9,9 03\nstat\ncheckpoint\n")
    ≡ Prints (codes "client 1\n@1 new\n@2 new\n@3 new\n@3 stat records 3 cells 2 buckets 2 free 59\n@3 rooted\nfront 3\n")
unfolding computing
row-28 = refl

row-29-run : prints (record { k = 2; capacity = 2; pages = 64; slots = 8; boundaries = 1000; cells = 1000000 }) (codes "run\n")
    ≡ Faults 1
unfolding computing
row-29-run = refl

row-29-run-extra : prints (record { k = 2; capacity = 2; pages = 64; slots = 8; boundaries = 1000; cells = 1000000 }) (codes "run g extra\n")
    ≡ Faults 1
unfolding computing
row-29-run-extra = refl

row-29-make : prints (record { k = 2; capacity = 2; pages = 64; slots = 8; boundaries = 1000; cells = 1000000 }) (codes "make g 5 2 64 8\n")
    ≡ Faults 1
unfolding computing
row-29-make = refl

row-29-help : prints (record { k = 2; capacity = 2; pages = 64; slots = 8; boundaries = 1000; cells = 1000000 }) (codes "--help\n")
    ≡ Faults 1
unfolding computing
row-29-help = refl
