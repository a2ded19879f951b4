-- Random scripts with many merges, and by number what happens in which.
-- checkpoint: 0 1 2 3 4 5 6 7
-- cut at an existing boundary: 0 1 2 3 4 5 6 7 8
-- full: 4
-- list: each
-- merge above of 0, K 1: 0 5
-- merge above of 0, K 2: 1 3 6
-- merge above of 0, K 3: 2 4 7 9
-- merge above of 1, K 2: 1 6
-- merge above of 1, K 3: 2 7 9
-- merge above of 2, K 3: 2 7
-- merge below of 0, K 1: 0 5
-- merge below of 0, K 2: 1 3 6 8
-- merge below of 0, K 3: 2 4 7 9
-- merge below of 1, K 2: 1 3 6 8
-- merge below of 1, K 3: 2 7
-- merge below of 2, K 3: 2 4 7 9
-- merge without room, K 1: 5
-- merge without room, K 2: 3
-- merge without room, K 3: 2 4
-- put: each
-- refinement of 0, K 1: 0 5
-- refinement of 0, K 2: 1 3 6 8
-- refinement of 0, K 3: 2 4 7 9
-- refinement of 1, K 2: 1 3 6 8
-- refinement of 1, K 3: 2 4 7 9
-- refinement of 2, K 3: 2 4 7 9
-- remove: each
-- root step by pages: 0 2 3 4 5
-- root step by request: 0 1 2 3 4 5 6 7
-- root step by slots: each
-- stat: each
use Rattle.std.specs.Prelude.{◌≡◌, codes, refl}
use Rattle.grid_model.specs.Computing.{computing}
use Rattle.grid_model.specs.Transcripts.{prints, Prints}

merging-0 : prints (record { k = 1; capacity = 2; pages = 12; slots = 7; boundaries = 1000; cells = 1000000 }) (codes "put 2 6f\nput 5 02\nput 2 8c\nput 10 01\nput 1 33\nput 7 5d\nput 8 e4\nput 8 2c\nput 5 09\nput 8 dc\nput 5 6e\nput 10 21\nput 7 45\nput 4 49\nput 2 38\nstat\nstat\nremove 4\nremove 7\nstat\nremove 8\nremove 7\nremove 2\nremove 10\nremove 2\nremove 8\nremove 2\nremove 10\nstat\nremove 1\nremove 5\nremove 8\nput 2 31\nput 10 ab\nput 4 e4\nput 2 24\nput 1 bd\nput 1 15\nput 4 f6\nput 4 28\nput 8 1f\nput 9 64\nput 5 97\nput 4 a6\nput 5 7d\nstat\ncheckpoint\nremove 2\nstat\nremove 4\nremove 5\nstat\nremove 10\nremove 4\nstat\nremove 1\nremove 5\nremove 1\nremove 2\nremove 9\nremove 8\nstat\nlist *\n")
    ≡ Prints (codes "client 1\n@1 new\n@2 new\n@3 old 6f\n@4 new\n@5 new\n@6 new\n@7 new\n@8 old e4\n@9 old 02\n@10 old 2c\n@11 old 09\n@12 old 01\n@13 old 5d\n@14 new\n@15 old 8c\n@15 stat records 7 cells 5 buckets 5 free 5\n@15 stat records 7 cells 5 buckets 5 free 5\n@16 gone 49\n@17 gone 45\n@17 stat records 5 cells 5 buckets 4 free 3\n@18 gone dc\n@18 none\n@19 gone 38\n@20 gone 21\n@20 none\n@20 none\n@20 none\n@20 none\n@20 stat records 2 cells 5 buckets 2 free 3\n@21 gone 33\n@22 gone 6e\n@22 none\n@23 new\n@24 new\n@25 new\n@26 old 31\n@27 new\n@28 old bd\n@29 old e4\n@30 old f6\n@31 new\n@32 new\n@33 new\n@34 old 28\n@35 old 97\n@35 stat records 7 cells 6 buckets 4 free 4\n@35 rooted\n@36 gone 24\n@36 stat records 6 cells 6 buckets 4 free 6\n@37 gone a6\n@38 gone 7d\n@38 stat records 4 cells 6 buckets 3 free 4\n@39 gone ab\n@39 none\n@39 stat records 3 cells 6 buckets 3 free 3\n@40 gone 15\n@40 none\n@40 none\n@40 none\n@41 gone 64\n@42 gone 1f\n@42 stat records 0 cells 6 buckets 1 free 5\n@42 rows 0\nfront 42\n")
unfolding computing
merging-0 = refl

merging-1 : prints (record { k = 2; capacity = 2; pages = 38; slots = 9; boundaries = 1000; cells = 1000000 }) (codes "put 1,2 4f\nput 0,1 f5\nput 4,0 9d\nput 2,2 a4\nput 2,0 d6\nput 0,1 e6\nput 4,2 f4\nput 4,2 0c\nput 3,0 2f\nput 4,1 61\nput 3,0 14\nput 3,2 3c\nput 4,0 42\nput 1,1 27\nput 3,3 8f\nput 1,1 4e\nput 3,2 f5\nstat\ncheckpoint\nremove 0,1\nremove 3,0\nstat\nremove 4,0\nstat\nremove 3,0\nremove 3,3\nremove 0,1\nremove 2,0\nremove 4,0\nstat\nremove 1,1\nremove 1,1\nremove 3,2\nremove 1,2\nstat\nremove 4,1\nremove 4,2\nremove 2,2\nput 4,2 ac\nput 2,0 df\nput 3,3 f6\nput 2,2 e7\nput 2,2 52\nput 2,1 3e\nput 4,2 a9\nput 1,2 d0\nput 4,1 37\nput 4,1 a0\nput 2,1 51\nput 2,1 29\nput 4,2 21\nput 4,2 49\nstat\nstat\nremove 2,2\nremove 2,1\nstat\nremove 4,2\nremove 4,2\nremove 1,2\nremove 2,1\nremove 4,2\nstat\nremove 2,1\nremove 4,1\nremove 3,3\nremove 4,2\nremove 4,1\nstat\nlist *,*\n")
    ≡ Prints (codes "client 1\n@1 new\n@2 new\n@3 new\n@4 new\n@5 new\n@6 old f5\n@7 new\n@8 old f4\n@9 new\n@10 new\n@11 old 2f\n@12 new\n@13 old 9d\n@14 new\n@15 new\n@16 old 27\n@17 old 3c\n@17 stat records 11 cells 16 buckets 8 free 25\n@17 rooted\n@18 gone e6\n@19 gone 14\n@19 stat records 9 cells 16 buckets 8 free 27\n@20 gone 42\n@20 stat records 8 cells 16 buckets 7 free 26\n@20 none\n@21 gone 8f\n@21 none\n@22 gone d6\n@22 none\n@22 stat records 6 cells 16 buckets 7 free 24\n@23 gone 4e\n@23 none\n@24 gone f5\n@25 gone 4f\n@25 stat records 3 cells 16 buckets 4 free 24\n@26 gone 61\n@27 gone 0c\n@28 gone a4\n@29 new\n@30 new\n@31 new\n@32 new\n@33 old e7\n@34 new\n@35 old ac\n@36 new\n@37 new\n@38 old 37\n@39 old 3e\n@40 old 51\n@41 old a9\n@42 old 21\n@42 stat records 7 cells 16 buckets 6 free 28\n@42 stat records 7 cells 16 buckets 6 free 28\n@43 gone 52\n@44 gone 29\n@44 stat records 5 cells 16 buckets 5 free 29\n@45 gone 49\n@45 none\n@46 gone d0\n@46 none\n@46 none\n@46 stat records 3 cells 16 buckets 4 free 29\n@46 none\n@47 gone a0\n@48 gone f6\n@48 none\n@48 none\n@48 stat records 1 cells 16 buckets 2 free 30\n@48 rows 1\n2,0 df\nfront 48\n")
unfolding computing
merging-1 = refl

merging-2 : prints (record { k = 3; capacity = 2; pages = 12; slots = 8; boundaries = 1000; cells = 1000000 }) (codes "put 1,0,0 9a\nput 1,2,0 66\nput 0,1,0 ea\nput 2,2,2 f7\nput 0,2,0 b6\nput 1,1,2 e9\nput 1,1,2 38\nput 0,0,0 d2\nput 0,0,0 60\nput 2,2,2 4e\nput 1,0,0 e2\nput 1,1,0 88\nput 0,2,0 e3\nput 1,2,0 38\nput 1,2,1 29\nput 0,0,0 24\nput 0,0,0 57\nstat\nstat\nremove 0,1,0\nremove 1,2,1\nremove 0,0,0\nremove 1,0,0\nstat\nremove 0,2,0\nstat\nremove 0,0,0\nremove 1,1,2\nremove 0,2,0\nremove 1,0,0\nremove 1,1,0\nremove 0,0,0\nstat\nremove 0,0,0\nremove 1,1,2\nremove 2,2,2\nstat\nremove 1,2,0\nput 1,0,0 e1\nput 0,0,0 e2\nput 1,1,0 ae\nput 2,2,2 d1\nput 2,0,2 34\nput 1,2,0 b7\nput 2,0,2 55\nput 1,1,2 22\nput 2,0,0 a6\nput 2,0,0 2d\nput 1,1,2 0b\nput 1,0,1 cb\nput 2,2,2 48\nput 2,0,2 17\nstat\ncheckpoint\nremove 2,2,2\nstat\nremove 2,2,2\nstat\nremove 1,0,1\nremove 1,1,0\nremove 1,0,0\nremove 2,0,2\nremove 0,0,0\nstat\nremove 2,0,2\nremove 1,1,2\nremove 1,1,2\nremove 2,0,0\nremove 1,2,0\nstat\nstat\nlist *,*,*\n")
    ≡ Prints (codes "client 1\n@1 new\n@2 new\n@3 new\n@4 new\n@5 new\n@6 new\n@7 old e9\n@8 new\n@9 old d2\n@10 old f7\n@11 old 9a\n@12 new\n@13 old b6\n@14 old 66\n@15 new\n@16 old 60\n@17 old 24\n@17 stat records 9 cells 8 buckets 6 free 2\n@17 stat records 9 cells 8 buckets 6 free 2\n@18 gone ea\n@19 gone 29\n@20 gone 57\n@21 gone e2\n@21 stat records 5 cells 8 buckets 5 free 1\n@22 gone e3\n@22 stat records 4 cells 8 buckets 5 free 5\n@22 none\n@23 gone 38\n@23 none\n@23 none\n@24 gone 88\n@24 none\n@24 stat records 2 cells 8 buckets 3 free 2\n@24 none\n@24 none\n@25 gone 4e\n@25 stat records 1 cells 8 buckets 2 free 3\n@26 gone 38\n@27 new\n@28 new\n@29 new\n@30 new\n@31 new\n@32 new\n@33 old 34\n@34 new\n@35 new\n@36 old a6\n@37 old 22\n@38 new\n@39 old d1\n@40 old 55\n@40 stat records 9 cells 18 buckets 6 free 1\n@40 rooted\n@41 gone 48\n@41 stat records 8 cells 18 buckets 6 free 4\n@41 none\n@41 stat records 8 cells 18 buckets 6 free 4\n@42 gone cb\n@43 gone ae\n@44 gone e1\n@45 gone 17\n@46 gone e2\n@46 stat records 3 cells 18 buckets 4 free 0\n@46 none\n@47 gone 0b\n@47 none\n@48 gone 2d\n@49 gone b7\n@49 stat records 0 cells 18 buckets 2 free 5\n@49 stat records 0 cells 18 buckets 2 free 5\n@49 rows 0\nfront 49\n")
unfolding computing
merging-2 = refl

merging-3 : prints (record { k = 2; capacity = 2; pages = 11; slots = 3; boundaries = 1000; cells = 1000000 }) (codes "put 3,1 ce\nput 0,0 0d\nput 3,0 4e\nput 0,3 fb\nput 3,0 d6\nput 0,2 72\nput 3,1 73\nput 4,1 60\nput 3,1 25\nput 0,2 83\nput 0,2 cb\nput 4,1 a6\nput 2,0 b5\nstat\nstat\nremove 0,2\nremove 4,1\nremove 3,1\nstat\nremove 2,0\nremove 0,3\nremove 3,0\nremove 3,1\nremove 0,2\nstat\nremove 4,1\nremove 0,0\nstat\nremove 3,1\nput 3,1 69\nput 1,1 59\nput 0,0 ab\nput 0,0 c4\nput 2,4 9d\nput 0,3 09\nput 3,1 57\nput 4,1 22\nput 2,0 87\nput 4,2 b4\nput 3,0 9e\nput 0,4 33\nput 2,4 59\nput 4,2 74\nput 0,4 5c\nput 2,3 7e\nstat\ncheckpoint\nremove 2,4\nstat\nremove 3,0\nremove 4,1\nremove 3,1\nstat\nremove 2,3\nstat\nremove 3,1\nstat\nremove 2,4\nstat\nremove 4,2\nremove 4,2\nremove 0,3\nstat\nremove 0,0\nstat\nremove 0,0\nstat\nremove 2,0\nstat\nremove 1,1\nstat\nstat\nlist *,*\n")
    ≡ Prints (codes "client 1\n@1 new\n@2 new\n@3 new\n@4 new\n@5 old 4e\n@6 new\n@7 old ce\n@8 new\n@9 old 73\n@10 old 72\n@11 old 83\n@12 old 60\n@13 new\n@13 stat records 7 cells 6 buckets 4 free 5\n@13 stat records 7 cells 6 buckets 4 free 5\n@14 gone cb\n@15 gone a6\n@16 gone 25\n@16 stat records 4 cells 6 buckets 3 free 4\n@17 gone b5\n@18 gone fb\n@19 gone d6\n@19 none\n@19 none\n@19 stat records 1 cells 6 buckets 1 free 6\n@19 none\n@20 gone 0d\n@20 stat records 0 cells 6 buckets 1 free 6\n@20 none\n@21 new\n@22 new\n@23 new\n@24 old ab\n@25 new\n@26 new\n@27 old 69\n@28 new\n@29 new\n@30 new\n@31 new\n@32 new\n@33 old 9d\n@34 old b4\n@35 old 33\n@36 new\n@36 stat records 11 cells 9 buckets 7 free 1\n@36 rooted\n@37 gone 59\n@37 stat records 10 cells 9 buckets 7 free 2\n@38 gone 9e\n@39 gone 22\n@40 gone 57\n@40 stat records 7 cells 9 buckets 7 free 2\n@41 gone 7e\n@41 stat records 6 cells 9 buckets 6 free 0\n@41 none\n@41 stat records 6 cells 9 buckets 6 free 0\n@41 none\n@41 stat records 6 cells 9 buckets 6 free 0\n@42 gone 74\n@42 none\n@43 gone 09\n@43 stat records 4 cells 9 buckets 5 free 2\n@44 gone c4\n@44 stat records 3 cells 9 buckets 4 free 1\n@44 none\n@44 stat records 3 cells 9 buckets 4 free 1\n@45 gone 87\n@45 stat records 2 cells 9 buckets 4 free 5\n@46 gone 59\n@46 stat records 1 cells 9 buckets 3 free 3\n@46 stat records 1 cells 9 buckets 3 free 3\n@46 rows 1\n0,4 5c\nfront 46\n")
unfolding computing
merging-3 = refl

merging-4 : prints (record { k = 3; capacity = 2; pages = 10; slots = 7; boundaries = 1000; cells = 1000000 }) (codes "put 2,0,1 1d\nput 0,0,0 44\nput 1,0,0 88\nput 0,2,0 cb\nput 2,0,1 5c\nput 1,2,0 02\nput 2,0,2 20\nput 2,0,2 1d\nput 0,0,0 a5\nput 1,2,0 eb\nput 0,0,1 45\nput 2,0,1 04\nput 0,2,0 f5\nstat\ncheckpoint\nremove 0,0,0\nremove 0,0,0\nstat\nremove 1,0,0\nstat\nremove 2,0,2\nremove 2,0,2\nremove 0,2,0\nstat\nremove 1,2,0\nremove 0,2,0\nremove 2,0,1\nstat\nremove 1,2,0\nremove 2,0,1\nput 2,0,1 e4\nput 1,0,0 c7\nput 2,0,1 26\nput 2,0,2 ca\nput 1,0,1 6c\nput 0,2,2 0f\nput 0,2,2 ea\nput 1,0,0 82\nput 0,0,0 8b\nput 1,2,2 17\nput 1,2,0 f0\nput 0,0,2 19\nstat\ncheckpoint\nremove 2,0,1\nremove 0,0,2\nremove 1,2,0\nstat\nremove 1,0,0\nremove 1,0,0\nremove 0,2,2\nstat\nremove 1,0,1\nremove 2,0,2\nremove 0,2,2\nremove 2,0,1\nstat\nlist *,*,*\n")
    ≡ Prints (codes "client 1\n@1 new\n@2 new\n@3 new\n@4 new\n@5 old 1d\n@6 new\n@7 new\n@8 old 20\n@9 old 44\n@10 old 02\n@11 new\n@12 old 5c\n@13 old cb\n@13 stat records 7 cells 8 buckets 5 free 3\n@13 rooted\n@14 gone a5\n@14 none\n@14 stat records 6 cells 8 buckets 5 free 3\n@15 gone 88\n@15 stat records 5 cells 8 buckets 5 free 2\n@16 gone 1d\n@16 none\n@17 gone f5\n@17 stat records 3 cells 8 buckets 4 free 0\n@18 gone eb\n@18 none\n@19 gone 04\n@19 stat records 1 cells 8 buckets 3 free 2\n@19 none\n@19 none\n@20 new\n@21 new\n@22 old e4\n@23 new\n@24 new\n@25 new\n@26 old 0f\n@27 old c7\n@28 new\n@29 new\n@30 new\nfull free 3 need 4\n@30 stat records 9 cells 12 buckets 6 free 3\n@30 rooted\n@31 gone 26\n@31 none\n@32 gone f0\n@32 stat records 7 cells 12 buckets 6 free 1\n@33 gone 82\n@33 none\n@34 gone ea\n@34 stat records 5 cells 12 buckets 6 free 2\n@35 gone 6c\n@36 gone ca\n@36 none\n@36 none\n@36 stat records 3 cells 12 buckets 5 free 3\n@36 rows 3\n0,0,0 8b\n0,0,1 45\n1,2,2 17\nfront 36\n")
unfolding computing
merging-4 = refl

merging-5 : prints (record { k = 1; capacity = 2; pages = 11; slots = 7; boundaries = 1000; cells = 1000000 }) (codes "put 4 84\nput 10 86\nput 1 b0\nput 0 cb\nput 3 52\nput 0 55\nput 11 5a\nput 6 e5\nput 6 a6\nput 3 58\nput 4 d4\nput 3 2f\nput 10 3f\nput 11 25\nput 7 71\nput 1 48\nstat\ncheckpoint\nremove 4\nremove 0\nremove 10\nstat\nremove 0\nremove 1\nremove 3\nstat\nremove 11\nstat\nremove 4\nremove 10\nremove 3\nremove 7\nremove 1\nstat\nremove 11\nstat\nremove 6\nput 3 90\nput 0 f8\nput 0 5f\nput 1 02\nput 1 d5\nput 1 72\nput 1 65\nput 0 e9\nput 3 79\nput 7 fe\nput 3 65\nput 6 94\nstat\nstat\nremove 3\nremove 1\nremove 7\nremove 1\nremove 0\nremove 0\nstat\nremove 1\nstat\nremove 0\nstat\nremove 3\nremove 1\nstat\nlist *\n")
    ≡ Prints (codes "client 1\n@1 new\n@2 new\n@3 new\n@4 new\n@5 new\n@6 old cb\n@7 new\n@8 new\n@9 old e5\n@10 old 52\n@11 old 84\n@12 old 58\n@13 old 86\n@14 old 5a\n@15 new\n@16 old b0\n@16 stat records 8 cells 5 buckets 5 free 2\n@16 rooted\n@17 gone d4\n@18 gone 55\n@19 gone 3f\n@19 stat records 5 cells 5 buckets 5 free 2\n@19 none\n@20 gone 48\n@21 gone 2f\n@21 stat records 3 cells 5 buckets 4 free 1\n@22 gone 25\n@22 stat records 2 cells 5 buckets 4 free 1\n@22 none\n@22 none\n@22 none\n@23 gone 71\n@23 none\n@23 stat records 1 cells 5 buckets 4 free 0\n@23 none\n@23 stat records 1 cells 5 buckets 4 free 0\n@24 gone a6\n@25 new\n@26 new\n@27 old f8\n@28 new\n@29 old 02\n@30 old d5\n@31 old 72\n@32 old 5f\n@33 old 90\n@34 new\n@35 old 79\n@36 new\n@36 stat records 5 cells 5 buckets 5 free 2\n@36 stat records 5 cells 5 buckets 5 free 2\n@37 gone 65\n@38 gone 65\n@39 gone fe\n@39 none\n@40 gone e9\n@40 none\n@40 stat records 1 cells 5 buckets 2 free 4\n@40 none\n@40 stat records 1 cells 5 buckets 2 free 4\n@40 none\n@40 stat records 1 cells 5 buckets 2 free 4\n@40 none\n@40 none\n@40 stat records 1 cells 5 buckets 2 free 4\n@40 rows 1\n6 94\nfront 40\n")
unfolding computing
merging-5 = refl

merging-6 : prints (record { k = 2; capacity = 2; pages = 34; slots = 8; boundaries = 1000; cells = 1000000 }) (codes "put 2,3 65\nput 2,3 23\nput 0,3 10\nput 4,1 27\nput 0,0 cc\nput 2,3 f3\nput 1,0 ee\nput 3,0 fe\nput 2,2 84\nput 0,2 61\nput 4,1 bd\nput 0,1 64\nstat\nstat\nremove 1,0\nremove 0,2\nremove 2,2\nremove 2,3\nremove 0,0\nremove 2,3\nstat\nremove 2,3\nstat\nremove 0,1\nremove 4,1\nstat\nremove 0,3\nput 2,3 12\nput 1,0 93\nput 2,1 7c\nput 0,0 32\nput 0,0 a4\nput 2,3 d8\nput 4,1 c4\nput 0,3 18\nput 0,0 af\nput 2,1 64\nput 0,3 0f\nput 3,0 39\nput 2,4 0f\nput 2,3 6f\nstat\ncheckpoint\nremove 2,3\nstat\nremove 3,0\nstat\nremove 0,0\nremove 2,1\nremove 2,4\nremove 0,0\nstat\nremove 0,0\nstat\nremove 2,1\nremove 1,0\nremove 2,3\nremove 4,1\nremove 2,3\nstat\nlist *,*\n")
    ≡ Prints (codes "client 1\n@1 new\n@2 old 65\n@3 new\n@4 new\n@5 new\n@6 old 23\n@7 new\n@8 new\n@9 new\n@10 new\n@11 old 27\n@12 new\n@12 stat records 9 cells 12 buckets 7 free 23\n@12 stat records 9 cells 12 buckets 7 free 23\n@13 gone ee\n@14 gone 61\n@15 gone 84\n@16 gone f3\n@17 gone cc\n@17 none\n@17 stat records 4 cells 12 buckets 4 free 26\n@17 none\n@17 stat records 4 cells 12 buckets 4 free 26\n@18 gone 64\n@19 gone bd\n@19 stat records 2 cells 12 buckets 2 free 26\n@20 gone 10\n@21 new\n@22 new\n@23 new\n@24 new\n@25 old 32\n@26 old 12\n@27 new\n@28 new\n@29 old a4\n@30 old 7c\n@31 old 18\n@32 old fe\n@33 new\n@34 old d8\n@34 stat records 8 cells 12 buckets 5 free 26\n@34 rooted\n@35 gone 6f\n@35 stat records 7 cells 12 buckets 5 free 27\n@36 gone 39\n@36 stat records 6 cells 12 buckets 5 free 26\n@37 gone af\n@38 gone 64\n@39 gone 0f\n@39 none\n@39 stat records 3 cells 12 buckets 3 free 24\n@39 none\n@39 stat records 3 cells 12 buckets 3 free 24\n@39 none\n@40 gone 93\n@40 none\n@41 gone c4\n@41 none\n@41 stat records 1 cells 12 buckets 1 free 26\n@41 rows 1\n0,3 0f\nfront 41\n")
unfolding computing
merging-6 = refl

merging-7 : prints (record { k = 3; capacity = 2; pages = 19; slots = 13; boundaries = 1000; cells = 1000000 }) (codes "put 2,1,2 f4\nput 2,2,2 3a\nput 2,2,1 ba\nput 2,0,1 80\nput 1,1,1 7f\nput 2,2,1 4a\nput 0,1,0 72\nput 2,2,1 61\nput 1,2,0 56\nput 1,2,1 9d\nput 1,0,0 78\nput 1,0,0 57\nput 1,0,0 a6\nput 0,2,0 1d\nstat\nstat\nremove 1,2,0\nremove 2,0,1\nremove 1,1,1\nstat\nremove 2,2,1\nremove 0,2,0\nremove 2,2,1\nremove 1,0,0\nstat\nremove 0,1,0\nstat\nremove 2,2,2\nremove 2,2,1\nremove 2,1,2\nremove 1,2,1\nstat\nput 1,2,0 52\nput 2,1,2 52\nput 1,0,2 4a\nput 0,1,0 6d\nput 0,1,0 19\nput 2,2,1 33\nput 1,2,1 39\nput 0,2,0 81\nput 2,2,1 f9\nput 0,1,0 af\nput 0,0,2 81\nput 2,2,2 94\nput 1,1,1 96\nstat\ncheckpoint\nremove 0,0,2\nstat\nremove 2,2,2\nstat\nremove 0,2,0\nremove 2,2,1\nremove 1,1,1\nstat\nremove 2,2,1\nstat\nremove 0,1,0\nstat\nremove 0,1,0\nremove 1,2,1\nstat\nremove 1,2,0\nremove 1,0,2\nstat\nstat\nlist *,*,*\n")
    ≡ Prints (codes "client 1\n@1 new\n@2 new\n@3 new\n@4 new\n@5 new\n@6 old ba\n@7 new\n@8 old 4a\n@9 new\n@10 new\n@11 new\n@12 old 78\n@13 old 57\n@14 new\n@14 stat records 10 cells 12 buckets 8 free 8\n@14 stat records 10 cells 12 buckets 8 free 8\n@15 gone 56\n@16 gone 80\n@17 gone 7f\n@17 stat records 7 cells 12 buckets 7 free 6\n@18 gone 61\n@19 gone 1d\n@19 none\n@20 gone a6\n@20 stat records 4 cells 12 buckets 5 free 7\n@21 gone 72\n@21 stat records 3 cells 12 buckets 4 free 8\n@22 gone 3a\n@22 none\n@23 gone f4\n@24 gone 9d\n@24 stat records 0 cells 12 buckets 2 free 8\n@25 new\n@26 new\n@27 new\n@28 new\n@29 old 6d\n@30 new\n@31 new\n@32 new\n@33 old 33\n@34 old 19\n@35 new\n@36 new\n@37 new\n@37 stat records 10 cells 12 buckets 7 free 8\n@37 rooted\n@38 gone 81\n@38 stat records 9 cells 12 buckets 6 free 9\n@39 gone 94\n@39 stat records 8 cells 12 buckets 6 free 8\n@40 gone 81\n@41 gone f9\n@42 gone 96\n@42 stat records 5 cells 12 buckets 5 free 6\n@42 none\n@42 stat records 5 cells 12 buckets 5 free 6\n@43 gone af\n@43 stat records 4 cells 12 buckets 5 free 6\n@43 none\n@44 gone 39\n@44 stat records 3 cells 12 buckets 4 free 6\n@45 gone 52\n@46 gone 4a\n@46 stat records 1 cells 12 buckets 2 free 8\n@46 stat records 1 cells 12 buckets 2 free 8\n@46 rows 1\n2,1,2 52\nfront 46\n")
unfolding computing
merging-7 = refl

merging-8 : prints (record { k = 2; capacity = 2; pages = 20; slots = 12; boundaries = 1000; cells = 1000000 }) (codes "put 4,4 0b\nput 0,2 da\nput 0,2 9a\nput 2,0 f4\nput 1,1 f8\nput 0,2 57\nput 1,4 4c\nput 1,2 b5\nput 0,2 d5\nput 1,3 4c\nput 2,4 91\nput 2,0 79\nput 2,4 c0\nput 2,0 4f\nput 2,4 3a\nstat\nstat\nremove 1,3\nremove 4,4\nremove 0,2\nstat\nremove 2,0\nremove 2,4\nremove 2,4\nstat\nremove 1,1\nremove 0,2\nremove 2,4\nremove 1,4\nremove 0,2\nremove 2,0\nstat\nremove 0,2\nput 3,3 2c\nput 2,4 ce\nput 2,4 9e\nput 0,3 54\nput 1,1 92\nput 1,2 cd\nput 1,3 64\nput 1,4 71\nput 2,0 d6\nput 1,2 bb\nput 1,1 00\nput 1,3 4c\nput 1,4 fe\nstat\nstat\nremove 2,4\nremove 0,3\nremove 1,3\nremove 1,4\nremove 1,2\nremove 1,4\nremove 1,1\nstat\nremove 2,0\nremove 1,3\nremove 1,1\nremove 2,4\nstat\nlist *,*\n")
    ≡ Prints (codes "client 1\n@1 new\n@2 new\n@3 old da\n@4 new\n@5 new\n@6 old 9a\n@7 new\n@8 new\n@9 old 57\n@10 new\n@11 new\n@12 old f4\n@13 old 91\n@14 old 79\n@15 old c0\n@15 stat records 8 cells 9 buckets 6 free 11\n@15 stat records 8 cells 9 buckets 6 free 11\n@16 gone 4c\n@17 gone 0b\n@18 gone d5\n@18 stat records 5 cells 9 buckets 6 free 9\n@19 gone 4f\n@20 gone 3a\n@20 none\n@20 stat records 3 cells 9 buckets 5 free 8\n@21 gone f8\n@21 none\n@21 none\n@22 gone 4c\n@22 none\n@22 none\n@22 stat records 1 cells 9 buckets 4 free 8\n@22 none\n@23 new\n@24 new\n@25 old ce\n@26 new\n@27 new\n@28 old b5\n@29 new\n@30 new\n@31 new\n@32 old cd\n@33 old 92\n@34 old 64\n@35 old 71\n@35 stat records 8 cells 9 buckets 5 free 9\n@35 stat records 8 cells 9 buckets 5 free 9\n@36 gone 9e\n@37 gone 54\n@38 gone 4c\n@39 gone fe\n@40 gone bb\n@40 none\n@41 gone 00\n@41 stat records 2 cells 9 buckets 3 free 11\n@42 gone d6\n@42 none\n@42 none\n@42 none\n@42 stat records 1 cells 9 buckets 3 free 11\n@42 rows 1\n3,3 2c\nfront 42\n")
unfolding computing
merging-8 = refl

merging-9 : prints (record { k = 3; capacity = 2; pages = 17; slots = 9; boundaries = 1000; cells = 1000000 }) (codes "put 0,2,2 b9\nput 1,1,2 2e\nput 0,2,2 bb\nput 1,1,1 78\nput 2,2,0 ec\nput 0,0,1 d8\nput 1,1,1 ed\nput 1,1,2 b7\nput 1,2,1 e7\nput 0,2,2 ea\nput 1,2,1 f5\nput 2,0,1 8d\nstat\nstat\nremove 0,2,2\nstat\nremove 1,1,1\nremove 1,2,1\nstat\nremove 0,2,2\nremove 0,2,2\nremove 2,2,0\nremove 1,1,2\nremove 2,0,1\nremove 1,1,2\nremove 1,2,1\nput 1,1,1 ca\nput 2,0,1 d8\nput 1,0,0 b4\nput 1,0,1 f1\nput 1,1,2 28\nput 1,0,1 9a\nput 1,0,1 77\nput 2,2,2 f0\nput 2,0,1 d1\nput 0,0,1 fd\nput 2,2,2 de\nput 0,2,2 bb\nstat\nstat\nremove 1,1,2\nremove 0,0,1\nremove 2,0,1\nremove 2,0,1\nremove 2,2,2\nremove 2,2,2\nremove 1,0,0\nstat\nremove 1,0,1\nstat\nremove 1,1,1\nremove 0,2,2\nstat\nstat\nlist *,*,*\n")
    ≡ Prints (codes "client 1\n@1 new\n@2 new\n@3 old b9\n@4 new\n@5 new\n@6 new\n@7 old 78\n@8 old 2e\n@9 new\n@10 old bb\n@11 old e7\n@12 new\n@12 stat records 7 cells 8 buckets 4 free 8\n@12 stat records 7 cells 8 buckets 4 free 8\n@13 gone ea\n@13 stat records 6 cells 8 buckets 4 free 8\n@14 gone ed\n@15 gone f5\n@15 stat records 4 cells 8 buckets 4 free 8\n@15 none\n@15 none\n@16 gone ec\n@17 gone b7\n@18 gone 8d\n@18 none\n@18 none\n@19 new\n@20 new\n@21 new\n@22 new\n@23 new\n@24 old f1\n@25 old 9a\n@26 new\n@27 old d8\n@28 old d8\n@29 old f0\n@30 new\n@30 stat records 8 cells 18 buckets 4 free 10\n@30 stat records 8 cells 18 buckets 4 free 10\n@31 gone 28\n@32 gone fd\n@33 gone d1\n@33 none\n@34 gone de\n@34 none\n@35 gone b4\n@35 stat records 3 cells 18 buckets 4 free 8\n@36 gone 77\n@36 stat records 2 cells 18 buckets 3 free 8\n@37 gone ca\n@38 gone bb\n@38 stat records 0 cells 18 buckets 1 free 11\n@38 stat records 0 cells 18 buckets 1 free 11\n@38 rows 0\nfront 38\n")
unfolding computing
merging-9 = refl
