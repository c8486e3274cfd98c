-- `text_states::row` meets its contract, arm by arm; the last lies past every row of the list.
use native.Mathlib.Omega.{arith}
use Rattle.text_states.specs.States.{row_of}
use Rattle.text_states.proofs.Rows.{arm, past}
use Rattle.text_states.proofs.row.Goals as goal

pub returns-in-0 : goal.returns-in-0
unfolding row_of
returns-in-0 c = arm c.in-0.is

pub returns-in-1 : goal.returns-in-1
unfolding row_of
returns-in-1 c = arm c.in-1.is

pub returns-in-2 : goal.returns-in-2
unfolding row_of
returns-in-2 c = arm c.in-2.is

pub returns-in-3 : goal.returns-in-3
unfolding row_of
returns-in-3 c = arm c.in-3.is

pub returns-in-4 : goal.returns-in-4
unfolding row_of
returns-in-4 c = arm c.in-4.is

pub returns-in-5 : goal.returns-in-5
unfolding row_of
returns-in-5 c = arm c.in-5.is

pub returns-in-6 : goal.returns-in-6
unfolding row_of
returns-in-6 c = arm c.in-6.is

pub returns-in-7 : goal.returns-in-7
unfolding row_of
returns-in-7 c = arm c.in-7.is

pub returns-in-8 : goal.returns-in-8
unfolding row_of
returns-in-8 c = arm c.in-8.is

pub returns-in-9 : goal.returns-in-9
unfolding row_of
returns-in-9 c = arm c.in-9.is

pub returns-in-10 : goal.returns-in-10
unfolding row_of
returns-in-10 c = arm c.in-10.is

pub returns-in-11 : goal.returns-in-11
unfolding row_of
returns-in-11 c = arm c.in-11.is

pub returns-in-12 : goal.returns-in-12
unfolding row_of
returns-in-12 c = arm c.in-12.is

pub returns-in-13 : goal.returns-in-13
unfolding row_of
returns-in-13 c = arm c.in-13.is

pub returns-in-14 : goal.returns-in-14
unfolding row_of
returns-in-14 c = arm c.in-14.is

pub returns-in-15 : goal.returns-in-15
unfolding row_of
returns-in-15 c = arm c.in-15.is

pub returns-in-16 : goal.returns-in-16
unfolding row_of
returns-in-16 c = arm c.in-16.is

pub returns-in-17 : goal.returns-in-17
unfolding row_of
returns-in-17 c = arm c.in-17.is

pub returns-in-18 : goal.returns-in-18
unfolding row_of
returns-in-18 c = arm c.in-18.is

pub returns-in-19 : goal.returns-in-19
unfolding row_of
returns-in-19 c = arm c.in-19.is

pub returns-in-20 : goal.returns-in-20
unfolding row_of
returns-in-20 c = arm c.in-20.is

pub returns-in-21 : goal.returns-in-21
unfolding row_of
returns-in-21 c = arm c.in-21.is

pub returns-in-22 : goal.returns-in-22
unfolding row_of
returns-in-22 c = arm c.in-22.is

pub returns-in-23 : goal.returns-in-23
unfolding row_of
returns-in-23 c = arm c.in-23.is

pub returns-in-24 : goal.returns-in-24
unfolding row_of
returns-in-24 c = arm c.in-24.is

pub returns-in-25 : goal.returns-in-25
unfolding row_of
returns-in-25 c = arm c.in-25.is

pub returns-in-26 : goal.returns-in-26
unfolding row_of
returns-in-26 c = arm c.in-26.is

pub returns-in-27 : goal.returns-in-27
unfolding row_of
returns-in-27 c = arm c.in-27.is

pub returns-in-28 : goal.returns-in-28
unfolding row_of
returns-in-28 c = arm c.in-28.is

pub returns-in-29 : goal.returns-in-29
unfolding row_of
returns-in-29 c = arm c.in-29.is

pub returns-in-30 : goal.returns-in-30
unfolding row_of
returns-in-30 c = arm c.in-30.is

pub returns-in-31 : goal.returns-in-31
unfolding row_of
returns-in-31 c = arm c.in-31.is

pub returns-in-32 : goal.returns-in-32
unfolding row_of
returns-in-32 c = arm c.in-32.is

pub returns-in-33 : goal.returns-in-33
unfolding row_of
returns-in-33 c = arm c.in-33.is

pub returns-in-34 : goal.returns-in-34
unfolding row_of
returns-in-34 c = arm c.in-34.is

pub returns-in-35 : goal.returns-in-35
unfolding row_of
returns-in-35 c = arm c.in-35.is

pub returns-in-36 : goal.returns-in-36
unfolding row_of
returns-in-36 c = arm c.in-36.is

pub returns-in-37 : goal.returns-in-37
unfolding row_of
returns-in-37 c = arm c.in-37.is

pub returns-in-38 : goal.returns-in-38
unfolding row_of
returns-in-38 c = arm c.in-38.is

pub returns-in-39 : goal.returns-in-39
unfolding row_of
returns-in-39 c = arm c.in-39.is

pub returns-in-40 : goal.returns-in-40
unfolding row_of
returns-in-40 c = arm c.in-40.is

pub returns-in-41 : goal.returns-in-41
unfolding row_of
returns-in-41 c = arm c.in-41.is

pub returns-in-42 : goal.returns-in-42
unfolding row_of
returns-in-42 c = arm c.in-42.is

pub returns-in-43 : goal.returns-in-43
unfolding row_of
returns-in-43 c = arm c.in-43.is

pub returns-in-44 : goal.returns-in-44
unfolding row_of
returns-in-44 c = arm c.in-44.is

pub returns-in-45 : goal.returns-in-45
unfolding row_of
returns-in-45 c = arm c.in-45.is

pub returns-in-46 : goal.returns-in-46
unfolding row_of
returns-in-46 c = arm c.in-46.is

pub returns-in-47 : goal.returns-in-47
unfolding row_of
returns-in-47 c = arm c.in-47.is

pub returns-in-48 : goal.returns-in-48
unfolding row_of
returns-in-48 c = arm c.in-48.is

pub returns-in-49 : goal.returns-in-49
unfolding row_of
returns-in-49 c = arm c.in-49.is

pub returns-in-50 : goal.returns-in-50
unfolding row_of
returns-in-50 c = arm c.in-50.is

pub returns-in-51 : goal.returns-in-51
unfolding row_of
returns-in-51 c = arm c.in-51.is

pub returns-in-52 : goal.returns-in-52
unfolding row_of
returns-in-52 c = arm c.in-52.is

pub returns-in-53 : goal.returns-in-53
unfolding row_of
returns-in-53 c = arm c.in-53.is

pub returns-in-54 : goal.returns-in-54
unfolding row_of
returns-in-54 c = arm c.in-54.is

pub returns-in-55 : goal.returns-in-55
unfolding row_of
returns-in-55 c = arm c.in-55.is

pub returns-in-56 : goal.returns-in-56
unfolding row_of
returns-in-56 c = arm c.in-56.is

pub returns-in-57 : goal.returns-in-57
unfolding row_of
returns-in-57 c = arm c.in-57.is

pub returns-in-58 : goal.returns-in-58
unfolding row_of
returns-in-58 c = arm c.in-58.is

pub returns-in-59 : goal.returns-in-59
unfolding row_of
returns-in-59 c = arm c.in-59.is

pub returns-in-60 : goal.returns-in-60
unfolding row_of
returns-in-60 c = arm c.in-60.is

pub returns-in-61 : goal.returns-in-61
unfolding row_of
returns-in-61 c = arm c.in-61.is

pub returns-in-62 : goal.returns-in-62
unfolding row_of
returns-in-62 c = arm c.in-62.is

pub returns-in-63 : goal.returns-in-63
unfolding row_of
returns-in-63 c = arm c.in-63.is

pub returns-in-64 : goal.returns-in-64
unfolding row_of
returns-in-64 c = arm c.in-64.is

pub returns-in-65 : goal.returns-in-65
unfolding row_of
returns-in-65 c = arm c.in-65.is

pub returns-in-66 : goal.returns-in-66
unfolding row_of
returns-in-66 c = arm c.in-66.is

pub returns-in-67 : goal.returns-in-67
unfolding row_of
returns-in-67 c = arm c.in-67.is

pub returns-in-68 : goal.returns-in-68
unfolding row_of
returns-in-68 c = arm c.in-68.is

pub returns-in-69 : goal.returns-in-69
unfolding row_of
returns-in-69 c = arm c.in-69.is

pub returns-in-70 : goal.returns-in-70
unfolding row_of
returns-in-70 c = arm c.in-70.is

pub returns-in-71 : goal.returns-in-71
unfolding row_of
returns-in-71 c = arm c.in-71.is

pub returns-in-72 : goal.returns-in-72
unfolding row_of
returns-in-72 c = arm c.in-72.is

pub returns-in-73 : goal.returns-in-73
unfolding row_of
returns-in-73 c = arm c.in-73.is

pub returns-in-74 : goal.returns-in-74
unfolding row_of
returns-in-74 c = arm c.in-74.is

pub returns-in-75 : goal.returns-in-75
unfolding row_of
returns-in-75 c = arm c.in-75.is

pub returns-in-76 : goal.returns-in-76
unfolding row_of
returns-in-76 c = arm c.in-76.is

pub returns-in-77 : goal.returns-in-77
unfolding row_of
returns-in-77 c = arm c.in-77.is

pub returns-in-78 : goal.returns-in-78
unfolding row_of
returns-in-78 c = arm c.in-78.is

pub returns-in-79 : goal.returns-in-79
unfolding row_of
returns-in-79 c = arm c.in-79.is

pub returns-in-80 : goal.returns-in-80
unfolding row_of
returns-in-80 c = arm c.in-80.is

pub returns-in-81 : goal.returns-in-81
unfolding row_of
returns-in-81 c = arm c.in-81.is

pub returns-in-82 : goal.returns-in-82
unfolding row_of
returns-in-82 c = arm c.in-82.is

pub returns-in-83 : goal.returns-in-83
unfolding row_of
returns-in-83 c = arm c.in-83.is

pub returns-in-84 : goal.returns-in-84
unfolding row_of
returns-in-84 c = arm c.in-84.is

pub returns-in-85 : goal.returns-in-85
unfolding row_of
returns-in-85 c = arm c.in-85.is

pub returns-in-86 : goal.returns-in-86
unfolding row_of
returns-in-86 c = arm c.in-86.is

pub returns-in-87 : goal.returns-in-87
unfolding row_of
returns-in-87 c = arm c.in-87.is

pub returns-in-88 : goal.returns-in-88
unfolding row_of
returns-in-88 c = arm c.in-88.is

pub returns-in-89 : goal.returns-in-89
unfolding row_of
returns-in-89 c = arm c.in-89.is

pub returns-in-90 : goal.returns-in-90
unfolding row_of
returns-in-90 c = arm c.in-90.is

pub returns-in-91 : goal.returns-in-91
unfolding row_of
returns-in-91 c = arm c.in-91.is

pub returns-in-92 : goal.returns-in-92
unfolding row_of
returns-in-92 c = arm c.in-92.is

pub returns-in-93 : goal.returns-in-93
unfolding row_of
returns-in-93 c = arm c.in-93.is

pub returns-in-94 : goal.returns-in-94
unfolding row_of
returns-in-94 c = arm c.in-94.is

pub returns-in-95 : goal.returns-in-95
unfolding row_of
returns-in-95 c = arm c.in-95.is

pub returns-in-96 : goal.returns-in-96
unfolding row_of
returns-in-96 c = arm c.in-96.is

pub returns-in-97 : goal.returns-in-97
unfolding row_of
returns-in-97 c = arm c.in-97.is

pub returns-in-98 : goal.returns-in-98
unfolding row_of
returns-in-98 c = arm c.in-98.is

pub returns-in-99 : goal.returns-in-99
unfolding row_of
returns-in-99 c = arm c.in-99.is

pub returns-in-100 : goal.returns-in-100
unfolding row_of
returns-in-100 c = arm c.in-100.is

pub returns-in-101 : goal.returns-in-101
unfolding row_of
returns-in-101 c = arm c.in-101.is

pub returns-in-102 : goal.returns-in-102
unfolding row_of
returns-in-102 c = arm c.in-102.is

pub returns-in-103 : goal.returns-in-103
unfolding row_of
returns-in-103 c = arm c.in-103.is

pub returns-in-104 : goal.returns-in-104
unfolding row_of
returns-in-104 c = arm c.in-104.is

pub returns-in-105 : goal.returns-in-105
unfolding row_of
returns-in-105 c = arm c.in-105.is

pub returns-in-106 : goal.returns-in-106
unfolding row_of
returns-in-106 c = arm c.in-106.is

pub returns-in-107 : goal.returns-in-107
unfolding row_of
returns-in-107 c = arm c.in-107.is

pub returns-in-108 : goal.returns-in-108
unfolding row_of
returns-in-108 c = arm c.in-108.is

pub returns-in-109 : goal.returns-in-109
unfolding row_of
returns-in-109 c = arm c.in-109.is

pub returns-in-110 : goal.returns-in-110
unfolding row_of
returns-in-110 c = arm c.in-110.is

pub returns-in-111 : goal.returns-in-111
unfolding row_of
returns-in-111 c = arm c.in-111.is

pub returns-in-112 : goal.returns-in-112
unfolding row_of
returns-in-112 c = arm c.in-112.is

pub returns-in-113 : goal.returns-in-113
unfolding row_of
returns-in-113 c = arm c.in-113.is

pub returns-in-114 : goal.returns-in-114
unfolding row_of
returns-in-114 c = arm c.in-114.is

pub returns-in-115 : goal.returns-in-115
unfolding row_of
returns-in-115 c = arm c.in-115.is

pub returns-in-116 : goal.returns-in-116
unfolding row_of
returns-in-116 c = arm c.in-116.is

pub returns-in-117 : goal.returns-in-117
unfolding row_of
returns-in-117 c = arm c.in-117.is

pub returns-in-118 : goal.returns-in-118
unfolding row_of
returns-in-118 c = arm c.in-118.is

pub returns-in-119 : goal.returns-in-119
unfolding row_of
returns-in-119 c = arm c.in-119.is

pub returns-in-120 : goal.returns-in-120
unfolding row_of
returns-in-120 c = arm c.in-120.is

pub returns-in-121 : goal.returns-in-121
unfolding row_of
returns-in-121 c = arm c.in-121.is

pub returns-in-122 : goal.returns-in-122
unfolding row_of
returns-in-122 c = arm c.in-122.is

pub returns-in-123 : goal.returns-in-123
unfolding row_of
returns-in-123 c = arm c.in-123.is

pub returns-in-124 : goal.returns-in-124
unfolding row_of
returns-in-124 c = arm c.in-124.is

pub returns-in-125 : goal.returns-in-125
unfolding row_of
returns-in-125 c = arm c.in-125.is

pub returns-in-126 : goal.returns-in-126
unfolding row_of
returns-in-126 c = arm c.in-126.is

pub returns-in-127 : goal.returns-in-127
unfolding row_of
returns-in-127 c = arm c.in-127.is

pub returns-in-128 : goal.returns-in-128
unfolding row_of
returns-in-128 c = arm c.in-128.is

pub returns-in-129 : goal.returns-in-129
unfolding row_of
returns-in-129 c = arm c.in-129.is

pub returns-in-130 : goal.returns-in-130
unfolding row_of
returns-in-130 c = arm c.in-130.is

pub returns-in-131 : goal.returns-in-131
unfolding row_of
returns-in-131 c = arm c.in-131.is

pub returns-in-132 : goal.returns-in-132
unfolding row_of
returns-in-132 c = arm c.in-132.is

pub returns-in-133 : goal.returns-in-133
unfolding row_of
returns-in-133 c = arm c.in-133.is

pub returns-in-134 : goal.returns-in-134
unfolding row_of
returns-in-134 c = arm c.in-134.is

pub returns-in-135 : goal.returns-in-135
unfolding row_of
returns-in-135 c = arm c.in-135.is

pub returns-in-136 : goal.returns-in-136
unfolding row_of
returns-in-136 c = arm c.in-136.is

pub returns-in-137 : goal.returns-in-137
unfolding row_of
returns-in-137 c = arm c.in-137.is

pub returns-in-138 : goal.returns-in-138
unfolding row_of
returns-in-138 c = arm c.in-138.is

pub returns-in-139 : goal.returns-in-139
unfolding row_of
returns-in-139 c = arm c.in-139.is

pub returns-in-140 : goal.returns-in-140
unfolding row_of
returns-in-140 c = arm c.in-140.is

pub returns-in-141 : goal.returns-in-141
unfolding row_of
returns-in-141 c = arm c.in-141.is

pub returns-in-142 : goal.returns-in-142
unfolding row_of
returns-in-142 c = arm c.in-142.is

pub returns-in-143 : goal.returns-in-143
unfolding row_of
returns-in-143 c = arm c.in-143.is

pub returns-in-144 : goal.returns-in-144
unfolding row_of
returns-in-144 c = arm c.in-144.is

pub returns-in-145 : goal.returns-in-145
unfolding row_of
returns-in-145 c = arm c.in-145.is

pub returns-in-146 : goal.returns-in-146
unfolding row_of
returns-in-146 c = arm c.in-146.is

pub returns-in-147 : goal.returns-in-147
unfolding row_of
returns-in-147 c = arm c.in-147.is

pub returns-in-148 : goal.returns-in-148
unfolding row_of
returns-in-148 c = arm c.in-148.is

pub returns-in-149 : goal.returns-in-149
unfolding row_of
returns-in-149 c = arm c.in-149.is

pub returns-in-150 : goal.returns-in-150
unfolding row_of
returns-in-150 c = arm c.in-150.is

pub returns-in-151 : goal.returns-in-151
unfolding row_of
returns-in-151 c = arm c.in-151.is

pub returns-in-152 : goal.returns-in-152
unfolding row_of
returns-in-152 c = arm c.in-152.is

pub returns-in-153 : goal.returns-in-153
unfolding row_of
returns-in-153 c = arm c.in-153.is

pub returns-in-154 : goal.returns-in-154
unfolding row_of
returns-in-154 c = arm c.in-154.is

pub returns-in-155 : goal.returns-in-155
unfolding row_of
returns-in-155 c = arm c.in-155.is

pub returns-in-156 : goal.returns-in-156
unfolding row_of
returns-in-156 c = arm c.in-156.is

pub returns-in-157 : goal.returns-in-157
unfolding row_of
returns-in-157 c = arm c.in-157.is

pub returns-in-158 : goal.returns-in-158
unfolding row_of
returns-in-158 c = arm c.in-158.is

pub returns-in-159 : goal.returns-in-159
unfolding row_of
returns-in-159 c = arm c.in-159.is

pub returns-in-160 : goal.returns-in-160
unfolding row_of
returns-in-160 c = arm c.in-160.is

pub returns-in-161 : goal.returns-in-161
unfolding row_of
returns-in-161 c = arm c.in-161.is

pub returns-in-162 : goal.returns-in-162
unfolding row_of
returns-in-162 c = arm c.in-162.is

pub returns-in-163 : goal.returns-in-163
unfolding row_of
returns-in-163 c = arm c.in-163.is

pub returns-in-164 : goal.returns-in-164
unfolding row_of
returns-in-164 c = arm c.in-164.is

pub returns-in-165 : goal.returns-in-165
unfolding row_of
returns-in-165 c = arm c.in-165.is

pub returns-in-166 : goal.returns-in-166
unfolding row_of
returns-in-166 c = arm c.in-166.is

pub returns-in-167 : goal.returns-in-167
unfolding row_of
returns-in-167 c = arm c.in-167.is

pub returns-in-168 : goal.returns-in-168
unfolding row_of
returns-in-168 c = arm c.in-168.is

pub returns-in-169 : goal.returns-in-169
unfolding row_of
returns-in-169 c = arm c.in-169.is

pub returns-in-170 : goal.returns-in-170
unfolding row_of
returns-in-170 c = arm c.in-170.is

pub returns-in-171 : goal.returns-in-171
unfolding row_of
returns-in-171 c = arm c.in-171.is

pub returns-in-172 : goal.returns-in-172
unfolding row_of
returns-in-172 c = arm c.in-172.is

pub returns-in-173 : goal.returns-in-173
unfolding row_of
returns-in-173 c = arm c.in-173.is

pub returns-in-174 : goal.returns-in-174
unfolding row_of
returns-in-174 c = arm c.in-174.is

pub returns-in-175 : goal.returns-in-175
unfolding row_of
returns-in-175 c = arm c.in-175.is

pub returns-in-176 : goal.returns-in-176
unfolding row_of
returns-in-176 c = arm c.in-176.is

pub returns-in-177 : goal.returns-in-177
unfolding row_of
returns-in-177 c = arm c.in-177.is

pub returns-in-178 : goal.returns-in-178
unfolding row_of
returns-in-178 c = arm c.in-178.is

pub returns-in-179 : goal.returns-in-179
unfolding row_of
returns-in-179 c = arm c.in-179.is

pub returns-in-180 : goal.returns-in-180
unfolding row_of
returns-in-180 c = arm c.in-180.is

pub returns-in-181 : goal.returns-in-181
unfolding row_of
returns-in-181 c = arm c.in-181.is

pub returns-in-182 : goal.returns-in-182
unfolding row_of
returns-in-182 c = arm c.in-182.is

pub returns-in-183 : goal.returns-in-183
unfolding row_of
returns-in-183 c = arm c.in-183.is

pub returns-in-184 : goal.returns-in-184
unfolding row_of
returns-in-184 c = arm c.in-184.is

pub returns-in-185 : goal.returns-in-185
unfolding row_of
returns-in-185 c = arm c.in-185.is

pub returns-in-186 : goal.returns-in-186
unfolding row_of
returns-in-186 c = arm c.in-186.is

pub returns-in-187 : goal.returns-in-187
unfolding row_of
returns-in-187 c = arm c.in-187.is

pub returns-in-188 : goal.returns-in-188
unfolding row_of
returns-in-188 c = arm c.in-188.is

pub returns-in-189 : goal.returns-in-189
unfolding row_of
returns-in-189 c = arm c.in-189.is

pub returns-in-190 : goal.returns-in-190
unfolding row_of
returns-in-190 c = arm c.in-190.is

pub returns-in-191 : goal.returns-in-191
unfolding row_of
returns-in-191 c = arm c.in-191.is

pub returns-in-192 : goal.returns-in-192
unfolding row_of
returns-in-192 c = arm c.in-192.is

pub returns-in-193 : goal.returns-in-193
unfolding row_of
returns-in-193 c = arm c.in-193.is

pub returns-in-194 : goal.returns-in-194
unfolding row_of
returns-in-194 c = arm c.in-194.is

pub returns-in-195 : goal.returns-in-195
unfolding row_of
returns-in-195 c = arm c.in-195.is

pub returns-in-196 : goal.returns-in-196
unfolding row_of
returns-in-196 c = arm c.in-196.is

pub returns-in-197 : goal.returns-in-197
unfolding row_of
returns-in-197 c = arm c.in-197.is

pub returns-in-198 : goal.returns-in-198
unfolding row_of
returns-in-198 c = arm c.in-198.is

pub returns-in-199 : goal.returns-in-199
unfolding row_of
returns-in-199 c = arm c.in-199.is

pub returns-in-200 : goal.returns-in-200
unfolding row_of
returns-in-200 c = arm c.in-200.is

pub returns-in-201 : goal.returns-in-201
unfolding row_of
returns-in-201 c = arm c.in-201.is

pub returns-in-202 : goal.returns-in-202
unfolding row_of
returns-in-202 c = arm c.in-202.is

pub returns-in-203 : goal.returns-in-203
unfolding row_of
returns-in-203 c = arm c.in-203.is

pub returns-in-204 : goal.returns-in-204
unfolding row_of
returns-in-204 c = arm c.in-204.is

pub returns-in-205 : goal.returns-in-205
unfolding row_of
returns-in-205 c = arm c.in-205.is

pub returns-in-206 : goal.returns-in-206
unfolding row_of
returns-in-206 c = arm c.in-206.is

pub returns-in-207 : goal.returns-in-207
unfolding row_of
returns-in-207 c = arm c.in-207.is

pub returns-in-208 : goal.returns-in-208
unfolding row_of
returns-in-208 c = arm c.in-208.is

pub returns-in-209 : goal.returns-in-209
unfolding row_of
returns-in-209 c = arm c.in-209.is

pub returns-in-210 : goal.returns-in-210
unfolding row_of
returns-in-210 c = arm c.in-210.is

pub returns-in-211 : goal.returns-in-211
unfolding row_of
returns-in-211 c = arm c.in-211.is

pub returns-in-212 : goal.returns-in-212
unfolding row_of
returns-in-212 c = arm c.in-212.is

pub returns-in-213 : goal.returns-in-213
unfolding row_of
returns-in-213 c = arm c.in-213.is

pub returns-in-214 : goal.returns-in-214
unfolding row_of
returns-in-214 c = arm c.in-214.is

pub returns-in-215 : goal.returns-in-215
unfolding row_of
returns-in-215 c = arm c.in-215.is

pub returns-in-216 : goal.returns-in-216
unfolding row_of
returns-in-216 c = arm c.in-216.is

pub returns-in-217 : goal.returns-in-217
unfolding row_of
returns-in-217 c = arm c.in-217.is

pub returns-in-218 : goal.returns-in-218
unfolding row_of
returns-in-218 c = arm c.in-218.is

pub returns-in-219 : goal.returns-in-219
unfolding row_of
returns-in-219 c = arm c.in-219.is

pub returns-in-220 : goal.returns-in-220
unfolding row_of
returns-in-220 c = arm c.in-220.is

pub returns-in-221 : goal.returns-in-221
unfolding row_of
returns-in-221 c = arm c.in-221.is

pub returns-in-222 : goal.returns-in-222
unfolding row_of
returns-in-222 c = arm c.in-222.is

pub returns-in-223 : goal.returns-in-223
unfolding row_of
returns-in-223 c = arm c.in-223.is

pub returns-in-224 : goal.returns-in-224
unfolding row_of
returns-in-224 c = arm c.in-224.is

pub returns-in-225 : goal.returns-in-225
unfolding row_of
returns-in-225 c = arm c.in-225.is

pub returns-in-226 : goal.returns-in-226
unfolding row_of
returns-in-226 c = arm c.in-226.is

pub returns-in-227 : goal.returns-in-227
unfolding row_of
returns-in-227 c = arm c.in-227.is

pub returns-in-228 : goal.returns-in-228
unfolding row_of
returns-in-228 c = arm c.in-228.is

pub returns-in-229 : goal.returns-in-229
unfolding row_of
returns-in-229 c = arm c.in-229.is

pub returns-in-230 : goal.returns-in-230
unfolding row_of
returns-in-230 c = arm c.in-230.is

pub returns-in-231 : goal.returns-in-231
unfolding row_of
returns-in-231 c = arm c.in-231.is

pub returns-in-232 : goal.returns-in-232
unfolding row_of
returns-in-232 c = arm c.in-232.is

pub returns-in-233 : goal.returns-in-233
unfolding row_of
returns-in-233 c = arm c.in-233.is

pub returns-in-234 : goal.returns-in-234
unfolding row_of
returns-in-234 c = arm c.in-234.is

pub returns-in-235 : goal.returns-in-235
unfolding row_of
returns-in-235 c = arm c.in-235.is

pub returns-in-236 : goal.returns-in-236
unfolding row_of
returns-in-236 c = arm c.in-236.is

pub returns-in-237 : goal.returns-in-237
unfolding row_of
returns-in-237 c = arm c.in-237.is

pub returns-in-238 : goal.returns-in-238
unfolding row_of
returns-in-238 c = arm c.in-238.is

pub returns-in-239 : goal.returns-in-239
unfolding row_of
returns-in-239 c = arm c.in-239.is

pub returns-in-240 : goal.returns-in-240
unfolding row_of
returns-in-240 c = arm c.in-240.is

pub returns-in-241 : goal.returns-in-241
unfolding row_of
returns-in-241 c = arm c.in-241.is

pub returns-in-242 : goal.returns-in-242
unfolding row_of
returns-in-242 c = arm c.in-242.is

pub returns-in-243 : goal.returns-in-243
unfolding row_of
returns-in-243 c = arm c.in-243.is

pub returns-in-244 : goal.returns-in-244
unfolding row_of
returns-in-244 c = arm c.in-244.is

pub returns-in-245 : goal.returns-in-245
unfolding row_of
returns-in-245 c = arm c.in-245.is

pub returns-in-246 : goal.returns-in-246
unfolding row_of
returns-in-246 c = arm c.in-246.is

pub returns-in-247 : goal.returns-in-247
unfolding row_of
returns-in-247 c = arm c.in-247.is

pub returns-in-248 : goal.returns-in-248
unfolding row_of
returns-in-248 c = arm c.in-248.is

pub returns-in-249 : goal.returns-in-249
unfolding row_of
returns-in-249 c = arm c.in-249.is

pub returns-in-250 : goal.returns-in-250
unfolding row_of
returns-in-250 c = arm c.in-250.is

pub returns-in-251 : goal.returns-in-251
unfolding row_of
returns-in-251 c = arm c.in-251.is

pub returns-in-252 : goal.returns-in-252
unfolding row_of
returns-in-252 c = arm c.in-252.is

pub returns-in-253 : goal.returns-in-253
unfolding row_of
returns-in-253 c = arm c.in-253.is

pub returns-in-254 : goal.returns-in-254
unfolding row_of
returns-in-254 c = arm c.in-254.is

pub returns-in_default : goal.returns-in_default
unfolding row_of
returns-in_default c = past {b = c.args.b} (omega arith)
