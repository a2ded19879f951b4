-- Scripts drawn at random from all commands, and by number what happens in which.
-- checkpoint: 0 1 2 3 4 5 6 8 9 10 11 12 13 15 17 18
-- count: each
-- cut at an existing boundary: 0 1 3 4 7 8 9 10 11 12 13 14 15 17 18
-- full: 2 3 5 6 8 11 17
-- get: each
-- list: 0 1 2 3 4 7 9 10 11 12 17 18
-- merge above of 0, K 1: 0 4 12 16
-- merge above of 0, K 2: 9
-- merge below of 0, K 1: 0 8
-- merge below of 0, K 3: 18
-- merge below of 1, K 2: 13
-- merge without room, K 1: 0 8 12
-- nocut: 0 1 3 4 7 11 12 13 14 16 18
-- put: each
-- refinement of 0, K 1: 0 4 8 12 16
-- refinement of 0, K 2: 1 5 9 13 17
-- refinement of 0, K 3: 2 6 10 14 18
-- refinement of 0, K 4: 3 7 11 15 19
-- refinement of 1, K 2: 1 5 9 13 17
-- refinement of 1, K 3: 2 6 10 14 18
-- refinement of 1, K 4: 3 7 11 15
-- refinement of 2, K 3: 2 6 10 14
-- refinement of 2, K 4: 3 7 11 15
-- refinement of 3, K 4: 3 7 11 15
-- remove: each
-- root step by pages: 0 1 2 3 4 5 6 8 11 12 15 16 17
-- root step by request: 0 1 2 3 4 5 6 8 9 10 11 12 13 15 17 18
-- root step by slots: 0 1 2 3 4 5 7 8 9 10 12 13 14 15 16 17 19
-- stat: each
use Rattle.std.specs.Prelude.{◌≡◌, codes, refl}
use Rattle.grid_model.specs.Computing.{computing}
use Rattle.grid_model.specs.Transcripts.{prints, Prints}

drawn-0 : prints (record { k = 1; capacity = 2; pages = 12; slots = 5; boundaries = 5; cells = 24 }) (codes "put 8 8704\nput 9 f2b1\nremove 4\nlist 7\nput 0 52a6\nput 6 16\nput 11 -\nremove 11\nput 3 -\nput 5 -\nput 2 43\nstat\nput 0 e4\nstat\nremove 2\nremove 0\nput 7 50\nput 8 c1\nstat\nremove 3\nput 12 fb11\nget 3\nlist *\ncheckpoint\nremove 9\nstat\nremove 2\nstat\nlist 3..10\ncount 1..18446744073709551615\nput 13 -\nput 13 91\nremove 13\nremove 12\nput 7 -\nput 13 1e\nget 6\nput 5 1615\nput 14 cf82\nput 9 -\nremove 8\nget 8\nput 2 -\nremove 12\nlist 1\nput 0 7a\nstat\nput 14 b9\nremove 13\nput 14 8bc0\nstat\nput 0 -\nput 4 b3a8\nput 11 dfee\nstat\n")
    ≡ Prints (codes "client 1\n@1 new\n@2 new\n@2 none\n@2 rows 0\n@3 new\n@4 new\n@5 new\n@6 gone -\n@7 new\n@8 new\n@9 new\n@9 stat records 7 cells 5 buckets 5 free 3\n@10 old 52a6\n@10 stat records 7 cells 5 buckets 5 free 3\n@11 gone 43\n@12 gone e4\n@13 new\n@14 old 8704\n@14 stat records 6 cells 6 buckets 5 free 1\n@15 gone -\n@16 new\n@16 none\n@16 rows 6\n5 -\n6 16\n7 50\n8 c1\n9 f2b1\n12 fb11\n@16 rooted\n@17 gone f2b1\n@17 stat records 5 cells 6 buckets 5 free 5\n@17 none\n@17 stat records 5 cells 6 buckets 5 free 5\n@17 rows 4\n5 -\n6 16\n7 50\n8 c1\n@17 count 5\n@18 new\n@19 old -\n@20 gone 91\n@21 gone fb11\n@22 old 50\n@23 new\n@23 = 16\n@24 old -\n@25 new\nnocut cells 6 boundaries 5\n@26 gone c1\n@26 none\n@27 new\n@27 none\n@27 rows 0\n@28 new\n@28 stat records 7 cells 6 buckets 5 free 5\n@29 old cf82\n@30 gone 1e\n@31 old b9\n@31 stat records 6 cells 6 buckets 4 free 3\n@32 old 7a\n@33 new\n@34 new\n@34 stat records 8 cells 6 buckets 5 free 3\nfront 34\n")
unfolding computing
drawn-0 = refl

drawn-1 : prints (record { k = 2; capacity = 3; pages = 10; slots = 3; boundaries = 3; cells = 6 }) (codes "put 10,8 fe\nput 8,8 7b\ncheckpoint\nput 4,3 1b\nput 4,8 -\nlist 2,2..8\nremove 9,5\ncount *,7..18446744073709551615\nput 6,1 f925\nput 0,3 -\nput 7,10 994d\nget 4,1\nput 9,6 61\nremove 4,3\nget 3,1\nput 6,7 -\nput 3,3 9c\nput 5,0 a535\nget 0,6\nlist 4,*\nput 7,8 029e\nget 10,6\nput 8,0 -\nremove 0,0\nlist 5..18446744073709551615,3..3\nput 18446744073709551615,1 ebed\ncount 2,2..6\nput 5,5 0e5e\nstat\n")
    ≡ Prints (codes "client 1\n@1 new\n@2 new\n@2 rooted\n@3 new\n@4 new\n@4 rows 0\n@4 none\n@4 count 3\n@5 new\n@6 new\n@7 new\n@7 none\n@8 new\n@9 gone 1b\n@9 none\n@10 new\n@11 new\n@12 new\n@12 none\n@12 rows 1\n4,8 -\nnocut cells 6 boundaries 3\n@12 none\n@13 new\n@13 none\n@13 rows 0\n@14 new\n@14 count 0\nnocut cells 6 boundaries 3\n@14 stat records 12 cells 6 buckets 5 free 3\nfront 14\n")
unfolding computing
drawn-1 = refl

drawn-2 : prints (record { k = 3; capacity = 5; pages = 8; slots = 3; boundaries = 3; cells = 12 }) (codes "put 4,1,4 63\nput 0,1,6 -\nput 18446744073709551615,5,5 -\nremove 6,3,3\nstat\nremove 0,4,1\ncount 0..18446744073709551615,0..5,0\nremove 1,3,1\nget 1,1,0\nput 6,0,6 5d\nlist *,5..6,*\nput 2,18446744073709551615,4 ae\nput 5,1,0 15\nremove 1,4,2\nremove 3,3,3\nstat\nput 4,4,5 ceda\nput 0,2,6 bcb0\nget 18446744073709551615,4,3\nstat\ncount 0..4,*,1..2\nremove 2,6,6\nremove 0,1,5\nput 3,1,0 27\nput 2,4,2 -\nget 6,18446744073709551615,1\ncount *,2,*\nput 4,1,4 -\nstat\nstat\nput 5,3,3 -\nput 1,2,6 -\nget 1,5,0\nlist 2,*,4\nremove 6,1,6\nput 2,1,3 fc\nput 0,5,1 0b\nlist 4,*,*\nput 2,0,4 7a2c\nput 0,6,5 -\nput 2,4,4 31\nput 1,1,6 -\nput 4,6,3 a7\ncheckpoint\nremove 1,1,1\nlist 3..4,*,0..1\nput 0,5,4 daae\nget 0,4,0\ncount 4,*,*\nstat\nremove 6,5,4\nput 4,4,2 2725\ncount 4..6,*,3\nget 5,5,5\ncount *,3,*\nget 18446744073709551615,3,5\nput 0,0,4 7ef9\nremove 4,6,3\nstat\n")
    ≡ Prints (codes "client 1\n@1 new\n@2 new\n@3 new\n@3 none\n@3 stat records 3 cells 1 buckets 1 free 5\n@3 none\n@3 count 0\n@3 none\n@3 none\n@4 new\n@4 rows 1\n18446744073709551615,5,5 -\n@5 new\n@6 new\n@6 none\n@6 none\n@6 stat records 6 cells 2 buckets 2 free 3\n@7 new\n@8 new\n@8 none\n@8 stat records 8 cells 2 buckets 2 free 4\n@8 count 0\n@8 none\n@8 none\n@9 new\n@10 new\n@10 none\n@10 count 1\n@11 old 63\n@11 stat records 10 cells 4 buckets 3 free 2\n@11 stat records 10 cells 4 buckets 3 free 2\n@12 new\n@13 new\n@13 none\n@13 rows 1\n2,18446744073709551615,4 ae\n@13 none\n@14 new\n@15 new\n@15 rows 2\n4,1,4 -\n4,4,5 ceda\n@16 new\n@17 new\n@18 new\nfull free 3 need 4\n@19 new\n@19 rooted\n@19 none\n@19 rows 1\n3,1,0 27\nfull free 3 need 4\n@19 none\n@19 count 3\n@19 stat records 18 cells 8 buckets 4 free 3\n@19 none\nfull free 3 need 4\n@19 count 2\n@19 none\n@19 count 1\n@19 none\nfull free 3 need 4\n@20 gone a7\n@20 stat records 17 cells 8 buckets 4 free 2\nfront 20\n")
unfolding computing
drawn-2 = refl

drawn-3 : prints (record { k = 4; capacity = 2; pages = 12; slots = 4; boundaries = 2; cells = 24 }) (codes "put 2,5,0,1 d715\nput 0,6,3,7 1c9b\nput 0,0,4,7 593c\nremove 3,7,5,1\ncount 1..18446744073709551615,2,5..18446744073709551615,*\nget 5,5,6,4\ncheckpoint\nput 3,7,4,6 f5\nget 3,1,6,2\nremove 1,6,0,1\nstat\nlist 4..5,2..3,3..18446744073709551615,4..6\nput 2,7,5,7 ed\nremove 7,1,0,7\nput 7,3,6,2 -\nput 6,3,4,1 1b9b\nput 1,3,1,1 0e\nremove 7,7,4,1\nstat\nput 4,0,5,1 0d\nput 7,7,4,4 -\nput 1,4,1,6 2d\nput 4,1,6,1 -\nremove 4,0,3,0\ncount 2..6,*,3,1..18446744073709551615\nput 4,4,0,1 -\nget 5,6,7,7\nget 6,2,3,3\ncount 2,*,5..6,1\nput 2,2,5,5 3319\nremove 2,7,6,0\nput 7,7,5,5 -\nremove 3,6,2,6\nput 5,0,7,6 1b\nput 4,4,3,6 -\nput 18446744073709551615,7,5,0 79\nget 2,5,7,4\nput 3,1,3,3 620e\ncount *,*,*,2..18446744073709551615\nget 7,4,0,4\nremove 1,6,7,0\nput 2,2,5,5 4a2a\nremove 7,5,5,4\nput 2,0,2,4 -\nget 5,4,0,1\nget 4,4,3,4\nremove 4,2,1,5\nlist 0..18446744073709551615,6..18446744073709551615,1..6,1..4\nput 5,5,5,0 70ac\nput 2,0,4,5 -\nput 7,1,3,5 f8d1\nget 6,0,2,2\nstat\n")
    ≡ Prints (codes "client 1\n@1 new\n@2 new\n@3 new\n@3 none\n@3 count 0\n@3 none\n@3 rooted\n@4 new\n@4 none\n@4 none\n@4 stat records 4 cells 2 buckets 2 free 8\n@4 rows 0\n@5 new\n@5 none\n@6 new\n@7 new\n@8 new\n@8 none\n@8 stat records 8 cells 8 buckets 5 free 4\n@9 new\n@10 new\n@11 new\nfull free 3 need 4\n@11 none\n@11 count 0\n@12 new\n@12 none\n@12 none\n@12 count 0\n@13 new\n@13 none\n@14 new\n@14 none\nnocut cells 24 boundaries 5\nfull free 3 need 4\nfull free 3 need 4\n@14 none\nfull free 3 need 4\n@14 count 9\n@14 none\n@14 none\n@15 old 3319\n@15 none\nfull free 3 need 4\n@15 none\n@15 none\n@15 none\n@15 rows 1\n7,7,4,4 -\nfull free 3 need 4\nfull free 3 need 4\nfull free 3 need 4\n@15 none\n@15 stat records 14 cells 24 buckets 8 free 3\nfront 15\n")
unfolding computing
drawn-3 = refl

drawn-4 : prints (record { k = 1; capacity = 2; pages = 9; slots = 5; boundaries = 3; cells = 4 }) (codes "put 0 fc23\nput 6 04\ncheckpoint\nput 4 db\nput 2 -\ncount *\nput 0 3ad4\nput 6 -\nstat\nget 17\nstat\nput 4 dd\nget 1\nput 0 -\ncount 3..12\nget 15\nput 14 -\nget 4\nremove 4\nput 3 6e\nput 3 -\nremove 2\ncount *\nput 3 -\nput 7 75\nlist 4..18446744073709551615\nstat\nput 2 -\nget 12\nremove 17\nput 18446744073709551615 7b3c\nput 13 a5b6\nput 7 4c5f\nput 1 -\nremove 7\nget 4\nput 17 f9\nput 3 1c07\nget 3\nstat\nremove 14\nput 18446744073709551615 -\nremove 11\nlist *\nput 9 55\nput 9 c993\nstat\nput 5 -\nput 14 8666\nput 2 f9\ncheckpoint\nstat\nget 8\nstat\nput 1 -\nstat\n")
    ≡ Prints (codes "client 1\n@1 new\n@2 new\n@2 rooted\n@3 new\n@4 new\n@4 count 4\n@5 old fc23\n@6 old 04\n@6 stat records 4 cells 2 buckets 2 free 4\n@6 none\n@6 stat records 4 cells 2 buckets 2 free 4\n@7 old db\n@7 none\n@8 old 3ad4\n@8 count 2\n@8 none\n@9 new\n@9 = dd\n@10 gone dd\n@11 new\n@12 old 6e\n@13 gone -\n@13 count 4\n@14 old -\nnocut cells 4 boundaries 3\n@14 rows 2\n6 -\n14 -\n@14 stat records 4 cells 4 buckets 3 free 2\n@15 new\n@15 none\n@15 none\nnocut cells 4 boundaries 3\nnocut cells 4 boundaries 3\nnocut cells 4 boundaries 3\n@16 new\n@16 none\n@16 none\nnocut cells 4 boundaries 3\n@17 old -\n@17 = 1c07\n@17 stat records 6 cells 4 buckets 3 free 3\n@18 gone -\n@19 new\n@19 none\n@19 rows 6\n0 -\n1 -\n2 -\n3 1c07\n6 -\n18446744073709551615 -\nnocut cells 4 boundaries 3\nnocut cells 4 boundaries 3\n@19 stat records 6 cells 4 buckets 3 free 2\n@20 new\nnocut cells 4 boundaries 3\n@21 old -\n@21 rooted\n@21 stat records 7 cells 4 buckets 4 free 4\n@21 none\n@21 stat records 7 cells 4 buckets 4 free 4\n@22 old -\n@22 stat records 7 cells 4 buckets 4 free 3\nfront 22\n")
unfolding computing
drawn-4 = refl

drawn-5 : prints (record { k = 2; capacity = 3; pages = 8; slots = 1; boundaries = 3; cells = 1000000 }) (codes "stat\nget 2,4\nput 0,9 -\nput 8,5 2ee5\ncount 3..18446744073709551615,1..4\nput 3,4 44\nput 1,9 d2\nput 6,5 -\nstat\nput 3,0 ea8d\nput 1,1 -\nget 5,0\nput 7,8 54\nget 10,4\nremove 9,7\nget 6,4\nremove 3,3\nremove 10,3\nput 5,9 -\nput 2,8 -\nremove 6,10\nremove 6,5\nput 2,1 34\nremove 10,9\nget 3,5\ncheckpoint\nremove 4,1\nremove 4,6\nstat\ncount *,*\nremove 1,6\nremove 1,1\nstat\n")
    ≡ Prints (codes "client 1\n@0 stat records 0 cells 1 buckets 1 free 6\n@0 none\n@1 new\n@2 new\n@2 count 0\n@3 new\n@4 new\n@5 new\n@5 stat records 5 cells 2 buckets 2 free 4\n@6 new\n@7 new\n@7 none\n@8 new\n@8 none\n@8 none\n@8 none\n@8 none\n@8 none\n@9 new\nfull free 3 need 4\n@9 none\n@10 gone -\nfull free 3 need 4\n@10 none\n@10 none\n@10 rooted\n@10 none\n@10 none\n@10 stat records 8 cells 6 buckets 4 free 3\n@10 count 8\n@10 none\n@11 gone -\n@11 stat records 7 cells 6 buckets 4 free 2\nfront 11\n")
unfolding computing
drawn-5 = refl

drawn-6 : prints (record { k = 3; capacity = 2; pages = 8; slots = 5; boundaries = 2; cells = 24 }) (codes "put 1,0,0 -\nstat\nput 3,1,4 -\nremove 2,3,4\nstat\ncount *,1..4,2..2\nput 2,0,0 245d\nremove 4,2,0\nremove 18446744073709551615,2,1\nput 4,1,0 -\nput 3,4,0 1ebe\ncount 0,1..4,*\nremove 1,2,0\nstat\nput 0,3,2 82e4\nput 2,3,0 facf\nput 1,0,3 7a\ncheckpoint\nremove 0,4,2\nremove 1,2,2\ncheckpoint\nget 1,1,3\nremove 1,0,0\nput 4,2,2 3948\nget 2,1,3\nput 4,3,4 27\nput 2,0,0 e39f\nget 2,3,18446744073709551615\nput 0,18446744073709551615,1 -\nstat\n")
    ≡ Prints (codes "client 1\n@1 new\n@1 stat records 1 cells 1 buckets 1 free 5\n@2 new\n@2 none\n@2 stat records 2 cells 1 buckets 1 free 5\n@2 count 0\n@3 new\n@3 none\n@3 none\n@4 new\n@5 new\n@5 count 0\n@5 none\n@5 stat records 5 cells 8 buckets 4 free 1\n@6 new\nfull free 3 need 4\nfull free 3 need 4\n@6 rooted\n@6 none\n@6 none\n@6 rooted\n@6 none\n@7 gone -\nfull free 3 need 4\n@7 none\n@8 new\n@9 old 245d\n@9 none\n@10 new\n@10 stat records 7 cells 8 buckets 4 free 2\nfront 10\n")
unfolding computing
drawn-6 = refl

drawn-7 : prints (record { k = 4; capacity = 2; pages = 18; slots = 1; boundaries = 3; cells = 24 }) (codes "put 0,2,3,4 e765\nput 1,1,0,2 1eb2\nremove 1,4,2,2\nput 0,18446744073709551615,5,1 0f\nput 1,1,3,1 -\nput 2,2,3,0 -\nput 5,3,2,5 63\nput 4,3,3,2 3e\nremove 1,2,1,3\nput 3,3,5,1 5a\nput 2,5,2,3 0ad9\ncount 5..5,*,*,1..3\nremove 2,0,2,4\ncount *,4,*,2..18446744073709551615\nput 1,4,1,5 -\nget 5,0,3,2\nput 0,2,2,5 -\nput 1,4,0,1 0fba\ncount 1,0,*,2..18446744073709551615\nput 2,3,0,5 e5\nput 2,2,5,0 188a\nput 2,0,4,0 -\nput 0,0,2,3 -\nput 4,2,1,1 47df\nput 3,1,3,0 b8\nlist 1,*,*,*\nput 5,5,1,5 -\nstat\nremove 0,5,1,5\nget 2,0,0,3\nput 3,1,1,5 0aae\nput 4,2,0,5 7026\nput 1,0,3,2 cc\nremove 3,4,5,18446744073709551615\nremove 2,0,5,3\nremove 3,0,2,0\nstat\nremove 5,2,5,2\nput 2,1,1,1 633e\nremove 2,3,4,1\nput 5,4,5,5 5211\nremove 3,2,5,0\nput 5,1,0,5 dd\nstat\n")
    ≡ Prints (codes "client 1\n@1 new\n@2 new\n@2 none\n@3 new\n@4 new\n@5 new\n@6 new\n@7 new\n@7 none\n@8 new\n@9 new\n@9 count 0\n@9 none\n@9 count 0\n@10 new\n@10 none\n@11 new\n@12 new\n@12 count 0\nnocut cells 24 boundaries 5\n@13 new\n@14 new\n@15 new\nnocut cells 24 boundaries 5\n@16 new\n@16 rows 4\n1,1,0,2 1eb2\n1,1,3,1 -\n1,4,0,1 0fba\n1,4,1,5 -\nnocut cells 24 boundaries 5\n@16 stat records 16 cells 24 buckets 9 free 6\n@16 none\n@16 none\n@17 new\nnocut cells 24 boundaries 5\n@18 new\n@18 none\n@18 none\n@18 none\n@18 stat records 18 cells 24 buckets 9 free 7\n@18 none\n@19 new\n@19 none\n@20 new\n@20 none\n@21 new\n@21 stat records 21 cells 24 buckets 11 free 5\nfront 21\n")
unfolding computing
drawn-7 = refl

drawn-8 : prints (record { k = 1; capacity = 2; pages = 9; slots = 2; boundaries = 1000; cells = 9 }) (codes "put 5 -\nput 3 9b\nput 15 b0\nput 8 f7\nput 8 0e6d\nget 15\nput 0 -\nput 14 ff\ncheckpoint\nstat\nremove 0\nremove 5\nput 4 -\nput 9 -\nput 15 -\nput 10 8f\nput 5 -\nput 9 c80c\ncheckpoint\nput 13 -\nget 16\nget 4\nput 5 37\nput 1 a81c\nput 1 9b5d\ncheckpoint\nput 3 dd\nput 4 ea\nput 1 0e02\nstat\nput 8 c4\ncount *\nput 3 b50f\nremove 5\nremove 6\ncount 5\nget 8\nremove 1\ncount 0\nput 11 -\nput 6 a8\nget 5\ncount *\nput 12 822d\nstat\n")
    ≡ Prints (codes "client 1\n@1 new\n@2 new\n@3 new\n@4 new\n@5 old f7\n@5 = b0\n@6 new\n@7 new\n@7 rooted\n@7 stat records 6 cells 4 buckets 4 free 4\n@8 gone -\n@9 gone -\n@10 new\n@11 new\n@12 old b0\n@13 new\n@14 new\n@15 old -\n@15 rooted\nfull free 3 need 4\n@15 none\n@15 = -\n@16 old -\nfull free 3 need 4\nfull free 3 need 4\n@16 rooted\n@17 old 9b\n@18 old -\nfull free 3 need 4\n@18 stat records 8 cells 5 buckets 5 free 3\n@19 old 0e6d\n@19 count 8\n@20 old dd\n@21 gone 37\n@21 none\n@21 count 0\n@21 = c4\n@21 none\n@21 count 0\nfull free 3 need 4\n@22 new\n@22 none\n@22 count 8\nfull free 3 need 4\n@22 stat records 8 cells 5 buckets 5 free 3\nfront 22\n")
unfolding computing
drawn-8 = refl

drawn-9 : prints (record { k = 2; capacity = 2; pages = 21; slots = 1; boundaries = 5; cells = 24 }) (codes "get 1,7\nput 3,5 b745\nput 2,5 -\nput 8,5 -\nput 0,6 f05e\ncheckpoint\nput 10,9 -\nstat\nremove 7,1\nget 10,3\nput 8,5 -\nput 9,0 e3a8\nput 1,9 -\ncount 3..18446744073709551615,*\nremove 1,9\nlist *,*\nremove 10,9\ncount 7..18446744073709551615,2\nlist *,0..9\nremove 3,3\nget 0,1\nget 6,3\nlist 2..2,*\nremove 10,6\nget 5,4\nget 3,7\nput 9,7 156a\nput 1,7 -\nput 6,8 4b91\nstat\n")
    ≡ Prints (codes "client 1\n@0 none\n@1 new\n@2 new\n@3 new\n@4 new\n@4 rooted\n@5 new\n@5 stat records 5 cells 4 buckets 3 free 15\n@5 none\n@5 none\n@6 old -\n@7 new\n@8 new\n@8 count 4\n@9 gone -\n@9 rows 6\n0,6 f05e\n2,5 -\n3,5 b745\n8,5 -\n9,0 e3a8\n10,9 -\n@10 gone -\n@10 count 0\n@10 rows 5\n0,6 f05e\n2,5 -\n3,5 b745\n8,5 -\n9,0 e3a8\n@10 none\n@10 none\n@10 none\n@10 rows 1\n2,5 -\n@10 none\n@10 none\n@10 none\n@11 new\n@12 new\n@13 new\n@13 stat records 8 cells 12 buckets 6 free 13\nfront 13\n")
unfolding computing
drawn-9 = refl

drawn-10 : prints (record { k = 3; capacity = 4; pages = 26; slots = 5; boundaries = 2; cells = 24 }) (codes "put 6,0,1 3c67\nput 7,4,6 -\nput 0,0,7 8898\nput 6,2,4 6a\nput 5,3,2 f1\nlist 6..6,3..18446744073709551615,*\nget 6,6,6\nput 4,4,5 ab\nput 7,0,7 77\nput 0,2,7 -\ncount 6..7,*,0..5\nremove 5,1,2\nlist *,*,0..18446744073709551615\nremove 1,4,0\ncount *,*,4\nput 5,4,1 8c\nput 2,2,6 e657\ncount *,*,1\nget 3,1,7\nput 2,18446744073709551615,0 9454\nstat\ncount *,0,1..18446744073709551615\nput 2,2,1 -\nremove 4,0,1\nput 2,5,6 ed29\nget 1,7,5\ncheckpoint\nput 7,5,1 a7b3\nput 6,0,4 6b77\ncount 3..18446744073709551615,6..6,3..18446744073709551615\nput 6,5,6 -\nput 7,6,3 84\ncheckpoint\nput 3,5,1 63\nput 6,7,4 55\nstat\n")
    ≡ Prints (codes "client 1\n@1 new\n@2 new\n@3 new\n@4 new\n@5 new\n@5 rows 0\n@5 none\n@6 new\n@7 new\n@8 new\n@8 count 2\n@8 none\n@8 rows 8\n0,0,7 8898\n0,2,7 -\n4,4,5 ab\n5,3,2 f1\n6,0,1 3c67\n6,2,4 6a\n7,0,7 77\n7,4,6 -\n@8 none\n@8 count 1\n@9 new\n@10 new\n@10 count 2\n@10 none\n@11 new\n@11 stat records 11 cells 4 buckets 3 free 21\n@11 count 3\n@12 new\n@12 none\n@13 new\n@13 none\n@13 rooted\n@14 new\n@15 new\n@15 count 0\n@16 new\n@17 new\n@17 rooted\n@18 new\n@19 new\n@19 stat records 19 cells 8 buckets 6 free 16\nfront 19\n")
unfolding computing
drawn-10 = refl

drawn-11 : prints (record { k = 4; capacity = 2; pages = 11; slots = 6; boundaries = 1; cells = 1000000 }) (codes "put 4,2,3,4 e3\ncount *,*,0..4,1..18446744073709551615\nget 2,3,0,2\nget 0,3,4,4\nput 4,1,18446744073709551615,0 984b\nput 0,18446744073709551615,0,3 -\nput 2,0,4,4 -\ncheckpoint\ncount *,1..18446744073709551615,0..4,0\nput 1,0,3,0 3e\nremove 2,2,2,3\nlist *,2,1..2,1\nremove 1,2,0,1\nput 0,4,4,0 -\nremove 1,1,0,4\nput 0,0,4,3 9b\nstat\nput 1,2,3,3 82dd\nput 2,1,0,3 -\nput 1,2,1,3 fd\nput 2,2,3,1 a132\nremove 0,2,4,0\nput 1,4,3,1 -\ncheckpoint\nput 1,1,3,3 -\nput 4,4,2,2 637c\nput 0,0,2,3 -\ncount *,1..18446744073709551615,1..4,0\ncheckpoint\ncount 4,2..4,0,*\nget 1,3,4,3\nput 0,0,1,4 -\ncount *,*,*,2..18446744073709551615\nremove 4,3,2,1\nput 0,3,1,0 2704\nget 4,3,4,1\ncount 3..3,*,1..2,*\nremove 4,4,1,4\nput 4,2,2,3 0f\nget 1,1,1,4\nput 1,0,4,0 -\nput 1,3,1,2 -\nput 2,1,2,1 -\ncount 1,*,2..4,0\nlist *,1..1,*,1..2\nstat\n")
    ≡ Prints (codes "client 1\n@1 new\n@1 count 1\n@1 none\n@1 none\n@2 new\n@3 new\n@4 new\n@4 rooted\n@4 count 0\n@5 new\n@5 none\n@5 rows 0\n@5 none\n@6 new\n@6 none\n@7 new\n@7 stat records 7 cells 16 buckets 5 free 3\n@8 new\n@9 new\nnocut cells 16 boundaries 4\n@10 new\n@10 none\nnocut cells 16 boundaries 4\n@10 rooted\nnocut cells 16 boundaries 4\n@11 new\nnocut cells 16 boundaries 4\n@11 count 1\n@11 rooted\n@11 count 0\n@11 none\nnocut cells 16 boundaries 4\n@11 count 7\n@11 none\nnocut cells 16 boundaries 4\n@11 none\n@11 count 0\n@11 none\nfull free 3 need 4\n@11 none\n@12 new\nnocut cells 16 boundaries 4\nnocut cells 16 boundaries 4\n@12 count 2\n@12 rows 0\n@12 stat records 12 cells 16 buckets 7 free 2\nfront 12\n")
unfolding computing
drawn-11 = refl

drawn-12 : prints (record { k = 1; capacity = 3; pages = 10; slots = 2; boundaries = 5; cells = 1000000 }) (codes "put 3 dd7c\nput 8 d8ba\nput 11 -\nput 17 -\nput 7 b5\nstat\nremove 15\ncount 10\nlist 0..18446744073709551615\nput 5 d171\nget 12\ncount 3..18446744073709551615\nlist 8..16\nput 15 -\nput 9 79\nput 14 0a87\nget 10\ncheckpoint\nget 16\nput 9 1f82\nput 4 -\nput 18446744073709551615 -\nput 1 -\ncount *\nput 12 7815\nput 2 2f\nput 10 2848\nremove 7\nremove 10\nput 16 ab33\nremove 17\nput 7 -\nstat\nremove 8\nput 17 122a\nput 1 d01b\nput 12 ad\nput 10 00\nremove 2\nput 10 4a\ncheckpoint\nput 8 -\nput 6 2d47\ncount 1..18446744073709551615\nput 16 1aaf\ncount *\nstat\n")
    ≡ Prints (codes "client 1\n@1 new\n@2 new\n@3 new\n@4 new\n@5 new\n@5 stat records 5 cells 2 buckets 2 free 6\n@5 none\n@5 count 0\n@5 rows 5\n3 dd7c\n7 b5\n8 d8ba\n11 -\n17 -\n@6 new\n@6 none\n@6 count 6\n@6 rows 2\n8 d8ba\n11 -\n@7 new\n@8 new\n@9 new\n@9 none\n@9 rooted\n@9 none\n@10 old 79\n@11 new\n@12 new\n@13 new\n@13 count 12\n@14 new\n@15 new\n@16 new\n@17 gone b5\n@18 gone 2848\nnocut cells 6 boundaries 5\n@19 gone -\n@20 new\n@20 stat records 13 cells 6 buckets 6 free 2\n@21 gone d8ba\n@22 new\n@23 old -\n@24 old 7815\n@25 new\n@26 gone 2f\n@27 old 00\n@27 rooted\n@28 new\n@29 new\n@29 count 15\nnocut cells 6 boundaries 5\n@29 count 15\n@29 stat records 15 cells 6 buckets 6 free 2\nfront 29\n")
unfolding computing
drawn-12 = refl

drawn-13 : prints (record { k = 2; capacity = 2; pages = 22; slots = 7; boundaries = 2; cells = 9 }) (codes "put 6,7 -\nremove 5,3\ncount *,1..18446744073709551615\ncount 3..18446744073709551615,*\nput 6,4 04bc\nput 0,7 98\nput 1,6 -\nremove 4,2\nget 5,2\nput 6,0 ec0e\nremove 4,0\nput 0,6 81\nget 0,7\ncount *,*\nput 5,4 9c20\nput 3,1 ff\ncheckpoint\nput 4,5 -\ncount 2..5,1..18446744073709551615\ncheckpoint\nremove 6,7\nstat\nput 5,3 -\nstat\nremove 18446744073709551615,3\nstat\nremove 6,4\ncount 1..3,3\nstat\nremove 7,3\nget 3,6\nput 2,6 -\nput 3,4 35e3\nstat\ncheckpoint\nstat\nstat\n")
    ≡ Prints (codes "client 1\n@1 new\n@1 none\n@1 count 1\n@1 count 1\n@2 new\n@3 new\n@4 new\n@4 none\n@4 none\n@5 new\n@5 none\n@6 new\n@6 = 98\n@6 count 6\n@7 new\n@8 new\n@8 rooted\nnocut cells 9 boundaries 4\n@8 count 2\n@8 rooted\n@9 gone -\n@9 stat records 7 cells 9 buckets 6 free 14\n@10 new\n@10 stat records 8 cells 9 buckets 6 free 13\n@10 none\n@10 stat records 8 cells 9 buckets 6 free 13\n@11 gone 04bc\n@11 count 0\n@11 stat records 7 cells 9 buckets 5 free 12\n@11 none\n@11 none\nnocut cells 9 boundaries 4\nnocut cells 9 boundaries 4\n@11 stat records 7 cells 9 buckets 5 free 12\n@11 rooted\n@11 stat records 7 cells 9 buckets 5 free 16\n@11 stat records 7 cells 9 buckets 5 free 16\nfront 11\n")
unfolding computing
drawn-13 = refl

drawn-14 : prints (record { k = 3; capacity = 2; pages = 24; slots = 7; boundaries = 1; cells = 1000000 }) (codes "put 2,4,6 7a23\nput 7,7,5 -\nput 3,6,2 -\nput 4,6,4 de\nstat\nget 3,6,1\nput 4,5,7 -\nget 0,7,1\nput 5,1,4 -\nput 3,1,5 51\nremove 7,3,4\nput 1,1,5 a145\nput 4,1,5 7019\ncount 3,0..4,3\nstat\ncount *,*,*\nstat\nremove 5,2,6\nput 2,7,3 db\nput 1,0,4 -\ncount 5..18446744073709551615,*,*\ncount 3..18446744073709551615,0,*\nput 7,7,3 86\nget 2,0,1\nget 0,7,5\nput 6,1,2 94\nput 6,18446744073709551615,6 -\ncount *,1..6,*\ncount 0,2,0..6\nput 6,4,7 1e\nput 1,5,3 18ec\nput 7,4,0 d5\ncount 4..18446744073709551615,6,*\nstat\nremove 5,2,6\nstat\nstat\n")
    ≡ Prints (codes "client 1\n@1 new\n@2 new\n@3 new\n@4 new\n@4 stat records 4 cells 4 buckets 3 free 18\n@4 none\n@5 new\n@5 none\nnocut cells 8 boundaries 3\nnocut cells 8 boundaries 3\n@5 none\n@6 new\nnocut cells 8 boundaries 3\n@6 count 0\n@6 stat records 6 cells 8 buckets 4 free 17\n@6 count 6\n@6 stat records 6 cells 8 buckets 4 free 17\n@6 none\n@7 new\nnocut cells 8 boundaries 3\n@7 count 1\n@7 count 0\n@8 new\n@8 none\n@8 none\n@9 new\n@10 new\n@10 count 6\n@10 count 0\nnocut cells 8 boundaries 3\n@11 new\nnocut cells 8 boundaries 3\n@11 count 1\n@11 stat records 11 cells 8 buckets 7 free 12\n@11 none\n@11 stat records 11 cells 8 buckets 7 free 12\n@11 stat records 11 cells 8 buckets 7 free 12\nfront 11\n")
unfolding computing
drawn-14 = refl

drawn-15 : prints (record { k = 4; capacity = 3; pages = 10; slots = 6; boundaries = 5; cells = 24 }) (codes "put 4,8,5,3 cf\nremove 1,8,0,2\ncheckpoint\nput 7,18446744073709551615,3,3 552c\nput 0,6,4,6 -\ncount 1,*,0..18446744073709551615,4\nremove 8,0,2,5\nput 6,4,7,8 -\nput 1,6,5,4 8c02\nput 3,5,3,3 fc\nput 2,7,5,1 e2\nput 2,5,0,6 a668\nstat\nget 0,3,8,4\nput 4,4,6,6 -\nremove 6,18446744073709551615,5,8\nput 2,1,7,3 fa\ncheckpoint\nput 0,0,0,6 -\nput 2,4,0,3 b95d\nstat\n")
    ≡ Prints (codes "client 1\n@1 new\n@1 none\n@1 rooted\n@2 new\n@3 new\n@3 count 0\n@3 none\n@4 new\n@5 new\n@6 new\n@7 new\n@8 new\n@8 stat records 8 cells 8 buckets 4 free 4\n@8 none\n@9 new\n@9 none\n@10 new\n@10 rooted\n@11 new\n@12 new\n@12 stat records 12 cells 16 buckets 6 free 1\nfront 12\n")
unfolding computing
drawn-15 = refl

drawn-16 : prints (record { k = 1; capacity = 2; pages = 8; slots = 1; boundaries = 3; cells = 12 }) (codes "put 8 -\ncount *\nput 12 d2\nremove 12\nput 2 1940\nput 14 43\nget 11\nput 9 -\nget 18\nput 0 58\nremove 11\nstat\nput 15 fd60\nput 14 e27f\nput 14 9d39\nremove 8\nput 1 f0fa\nremove 5\nremove 4\nremove 1\nput 14 ce\nput 16 7925\ncount 11..15\nput 18 2c8f\nstat\nput 17 8804\nput 9 df\ncount *\nput 5 40ec\nremove 18\nput 2 29\nget 17\nput 3 00bf\nget 3\nput 15 b7ee\ncount *\nput 2 -\nstat\n")
    ≡ Prints (codes "client 1\n@1 new\n@1 count 1\n@2 new\n@3 gone d2\n@4 new\n@5 new\n@5 none\n@6 new\n@6 none\n@7 new\n@7 none\n@7 stat records 5 cells 3 buckets 3 free 3\n@8 new\n@9 old 43\n@10 old e27f\n@11 gone -\nnocut cells 4 boundaries 3\n@11 none\n@11 none\n@11 none\n@12 old 9d39\nnocut cells 4 boundaries 3\n@12 count 2\nnocut cells 4 boundaries 3\n@12 stat records 5 cells 4 buckets 3 free 3\nnocut cells 4 boundaries 3\n@13 old -\n@13 count 5\nnocut cells 4 boundaries 3\n@13 none\n@14 old 1940\n@14 none\nnocut cells 4 boundaries 3\n@14 none\n@15 old fd60\n@15 count 5\n@16 old 29\n@16 stat records 5 cells 4 buckets 3 free 3\nfront 16\n")
unfolding computing
drawn-16 = refl

drawn-17 : prints (record { k = 2; capacity = 4; pages = 9; slots = 6; boundaries = 3; cells = 1000000 }) (codes "put 3,3 -\nput 1,2 d7fc\nlist 4..18446744073709551615,*\nput 3,7 074d\nput 7,0 5d\ncheckpoint\ncheckpoint\nput 2,8 -\nput 8,8 -\nput 6,8 -\nremove 3,6\nput 2,1 9e\nput 2,5 445a\nput 5,7 5e5f\nremove 3,7\nput 3,4 -\nput 4,5 e0\nput 0,0 a679\nput 5,4 08\nremove 4,1\nput 5,8 26d7\nput 8,7 2b\nstat\ncheckpoint\nremove 6,6\nstat\nremove 5,9\ncheckpoint\nlist 2..18446744073709551615,*\nput 0,3 -\nget 0,7\nget 6,9\nput 0,7 4b\nput 5,1 -\ncount 3..9,3\nremove 4,8\nremove 3,4\nstat\nstat\nlist 0..9,0\nstat\n")
    ≡ Prints (codes "client 1\n@1 new\n@2 new\n@2 rows 0\n@3 new\n@4 new\n@4 rooted\n@4 rooted\n@5 new\n@6 new\n@7 new\n@7 none\n@8 new\n@9 new\n@10 new\n@11 gone 074d\n@12 new\n@13 new\n@14 new\n@15 new\n@15 none\n@16 new\nfull free 3 need 4\n@16 stat records 14 cells 6 buckets 5 free 3\n@16 rooted\n@16 none\n@16 stat records 14 cells 6 buckets 5 free 3\n@16 none\n@16 rooted\n@16 rows 12\n2,1 9e\n2,5 445a\n2,8 -\n3,3 -\n3,4 -\n4,5 e0\n5,4 08\n5,7 5e5f\n5,8 26d7\n6,8 -\n7,0 5d\n8,8 -\nfull free 3 need 4\n@16 none\n@16 none\n@17 new\n@18 new\n@18 count 1\n@18 none\n@19 gone -\n@19 stat records 15 cells 6 buckets 5 free 0\n@19 stat records 15 cells 6 buckets 5 free 0\n@19 rows 2\n0,0 a679\n7,0 5d\n@19 stat records 15 cells 6 buckets 5 free 0\nfront 19\n")
unfolding computing
drawn-17 = refl

drawn-18 : prints (record { k = 3; capacity = 2; pages = 20; slots = 8; boundaries = 3; cells = 4 }) (codes "remove 4,5,2\ncount 3,*,4\ncount 3,5..18446744073709551615,*\nget 3,2,1\nremove 2,0,2\nremove 6,5,2\nremove 5,4,2\nput 3,4,4 38fd\nremove 6,2,5\nput 3,6,0 83c5\nremove 3,0,3\nget 3,2,0\nlist 0..4,0,0\nget 0,1,0\nlist *,5..18446744073709551615,0\nput 5,5,0 e2\nremove 0,0,4\nput 1,4,2 -\nput 6,1,1 -\nget 0,4,3\nremove 3,1,5\ncheckpoint\nstat\nput 2,1,1 -\nput 0,1,6 -\nremove 3,2,6\nget 6,4,0\nput 0,5,1 c3d4\nremove 5,2,4\nremove 0,4,3\ncount 1,*,*\ncheckpoint\nput 6,6,4 fdd0\nstat\nget 4,4,5\ncount 4..18446744073709551615,0..2,2..18446744073709551615\nput 5,1,2 84\nput 2,1,1 3974\nremove 6,6,4\nget 4,5,0\nremove 3,6,1\nput 5,5,2 ec09\nput 6,6,6 -\nremove 5,3,5\nstat\nstat\nget 0,0,0\nremove 0,4,0\nput 4,1,1 c7\nstat\n")
    ≡ Prints (codes "client 1\n@0 none\n@0 count 0\n@0 count 0\n@0 none\n@0 none\n@0 none\n@0 none\n@1 new\n@1 none\n@2 new\n@2 none\n@2 none\n@2 rows 0\n@2 none\n@2 rows 1\n3,6,0 83c5\n@3 new\n@3 none\n@4 new\n@5 new\n@5 none\n@5 none\n@5 rooted\n@5 stat records 5 cells 4 buckets 3 free 16\nnocut cells 4 boundaries 2\nnocut cells 4 boundaries 2\n@5 none\n@5 none\nnocut cells 4 boundaries 2\n@5 none\n@5 none\n@5 count 1\n@5 rooted\n@6 new\n@6 stat records 6 cells 4 buckets 4 free 13\n@6 none\n@6 count 0\nnocut cells 4 boundaries 2\nnocut cells 4 boundaries 2\n@7 gone fdd0\n@7 none\n@7 none\nnocut cells 4 boundaries 2\n@8 new\n@8 none\n@8 stat records 6 cells 4 buckets 3 free 13\n@8 stat records 6 cells 4 buckets 3 free 13\n@8 none\n@8 none\nnocut cells 4 boundaries 2\n@8 stat records 6 cells 4 buckets 3 free 13\nfront 8\n")
unfolding computing
drawn-18 = refl

drawn-19 : prints (record { k = 4; capacity = 5; pages = 14; slots = 1; boundaries = 1000; cells = 1000000 }) (codes "stat\nput 1,0,3,1 26\nget 0,3,18446744073709551615,0\nput 0,3,1,3 28\nstat\nput 3,2,3,3 -\nput 3,3,0,1 a1a4\nremove 2,3,2,1\nput 3,2,0,0 cc\nput 2,3,1,3 62f2\nput 1,0,0,1 d3\nput 3,0,2,0 -\ncount *,0,0,0..18446744073709551615\nstat\nget 2,0,0,3\nstat\nget 1,1,2,1\nremove 0,1,0,3\nremove 2,1,2,1\nput 0,0,1,0 86\nstat\n")
    ≡ Prints (codes "client 1\n@0 stat records 0 cells 1 buckets 1 free 12\n@1 new\n@1 none\n@2 new\n@2 stat records 2 cells 1 buckets 1 free 11\n@3 new\n@4 new\n@4 none\n@5 new\n@6 new\n@7 new\n@8 new\n@8 count 1\n@8 stat records 8 cells 2 buckets 2 free 10\n@8 none\n@8 stat records 8 cells 2 buckets 2 free 10\n@8 none\n@8 none\n@8 none\n@9 new\n@9 stat records 9 cells 2 buckets 2 free 10\nfront 9\n")
unfolding computing
drawn-19 = refl
